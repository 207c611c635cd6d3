-- Two pasts with the same setup, and the same events in all turns before one, have the same run up
-- to there.
use Rattle.std.proofs.Common.{◌≡◌, ◌∙◌, ℕ, zero, suc, ◌<◌, ◌≤◌, List, ◌++◌, ap, ap₂, refl, arith}
use Rattle.pdp_operand.specs.Phases.World.{World}
use Rattle.pdp_cpu.specs.Handbook.MachineState.{MachineState}
use Rattle.pdp_cpu.specs.Handbook.Turn.{one_turn, printed_in, punched_in, turn_trace}
use Rattle.pdp_script.specs.Entries.{events_at}
use Rattle.pdp_store.specs.FirstTouches.{first_touches_after}
use Rattle.pdp_replay.specs.Run.FirstTouches.{first_touches_at, untouched_all}
use Rattle.pdp_replay.specs.Run.Checkpoints.{with_turn, text_kept_at, punched_kept_at}
use Rattle.pdp_replay.specs.Past.{Past}
use Rattle.pdp_replay.specs.Run.States.{at, first_world, state_at, text_at, punched_at, trace_at}

-- the two have the same setup, and the same events in each turn before this one
pub record Agree (p q : Past) (n : ℕ) : Type 0 where
  pub setup : p.setup ≡ q.setup
  pub events : (t : ℕ) → t < n → events_at p.script.entries t ≡ events_at q.script.entries t

pub agree_before : (p q : Past) (n k : ℕ) → Agree p q n → k ≤ n → Agree p q k
agree_before p q n k agree le = record { setup = agree.setup; events = λ t below. agree.events t (omega arith) }

pub same_state : (p q : Past) (n : ℕ) → Agree p q n → state_at p n ≡ state_at q n
unfolding state_at
same_state p q zero agree = ap first_world agree.setup
same_state p q (suc n) agree =
    ap₂ (one_turn n) (agree.events n (omega arith)) (same_state p q n (agree_before p q (suc n) n agree (omega arith)))

pub same_text : (p q : Past) (n : ℕ) → Agree p q n → text_at p n ≡ text_at q n
unfolding text_at
same_text p q zero agree = refl
same_text p q (suc n) agree =
    let before : Agree p q n = agree_before p q (suc n) n agree (omega arith) in
    ap₂ ◌++◌ (same_text p q n before) (ap₂ (printed_in n) (agree.events n (omega arith)) (same_state p q n before))

pub same_punched : (p q : Past) (n : ℕ) → Agree p q n → punched_at p n ≡ punched_at q n
unfolding punched_at
same_punched p q zero agree = refl
same_punched p q (suc n) agree =
    let before : Agree p q n = agree_before p q (suc n) n agree (omega arith) in
    ap₂ ◌++◌ (same_punched p q n before) (ap₂ (punched_in n) (agree.events n (omega arith)) (same_state p q n before))

pub same_kept_text : (p q : Past) (n : ℕ) → Agree p q n → text_kept_at p n ≡ text_kept_at q n
unfolding text_kept_at
same_kept_text p q zero agree = refl
same_kept_text p q (suc n) agree =
    let before : Agree p q n = agree_before p q (suc n) n agree (omega arith) in
    ap₂ ◌++◌ (same_kept_text p q n before)
    (ap (with_turn n) (ap₂ (printed_in n) (agree.events n (omega arith)) (same_state p q n before)))

pub same_kept_punched : (p q : Past) (n : ℕ) → Agree p q n → punched_kept_at p n ≡ punched_kept_at q n
unfolding punched_kept_at
same_kept_punched p q zero agree = refl
same_kept_punched p q (suc n) agree =
    let before : Agree p q n = agree_before p q (suc n) n agree (omega arith) in
    ap₂ ◌++◌ (same_kept_punched p q n before)
    (ap (with_turn n) (ap₂ (punched_in n) (agree.events n (omega arith)) (same_state p q n before)))

pub same_trace : (p q : Past) (n : ℕ) → Agree p q n → trace_at p n ≡ trace_at q n
unfolding trace_at
same_trace p q zero agree = refl
same_trace p q (suc n) agree =
    let before : Agree p q n = agree_before p q (suc n) n agree (omega arith) in
    ap₂ ◌++◌ (same_trace p q n before) (ap₂ (turn_trace n) (agree.events n (omega arith)) (same_state p q n before))

-- the first touches of both are the same
pub same_first_touches : (p q : Past) (n : ℕ) → Agree p q n → first_touches_at p n ≡ first_touches_at q n
same_first_touches p q n agree = ap₂ first_touches_after (same_trace p q n agree) (ap untouched_all agree.setup)

abbrev state_of : ℕ → World → List ℕ → List ℕ → MachineState
state_of n w text punched = record { turn = n; world = w; text = text; punched = punched }

-- the machine before the turn is the same
pub same_at : (p q : Past) (n : ℕ) → Agree p q n → at p n ≡ at q n
same_at p q n agree =
    ap (λ w. state_of n w (text_at p n) (punched_at p n)) (same_state p q n agree)
    ∙ ap₂ (state_of n (state_at q n)) (same_text p q n agree) (same_punched p q n agree)
