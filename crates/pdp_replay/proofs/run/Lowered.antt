-- What a turn, a cut, a load and an edit leave of the texts that a machine keeps, and of what no
-- turn changes.
use Rattle.std.proofs.Common.{◌≡◌, ◌∙◌, ℕ, ◌+◌, ◌≤◌, ◌&&◌, Bool, List, ap, ap₂, arith, false, length, max, nat_le, refl, subst, sym, true}
use Rattle.std.proofs.lemmas.Bool.{leb-true}
use Rattle.std.proofs.lemmas.List.{take_all}
use Rattle.pdp_cpu.specs.KeptTexts.{kept_before, kept_over}
use Rattle.pdp_cpu.specs.Saved.{state_cut}
use Rattle.pdp_cpu.specs.Handbook.MachineState.{MachineState, MachineWithTexts, printed_kept, punched_kept}
use Rattle.pdp_cpu.specs.Handbook.Turn.{printed_in, punched_in, turn_trace}
use Rattle.pdp_operand.specs.Phases.World.{World}
use Rattle.pdp_store.specs.FirstTouches.{all_first_touches_before, first_touches_after, never}
use Rattle.pdp_script.specs.Entries.{events_at}
use Rattle.pdp_replay.specs.Run.Checkpoints.{IsBuiltFrom, IsInRun, KeepsTexts}
use Rattle.pdp_replay.specs.Past.{Past}
use Rattle.pdp_replay.specs.Past.Setup.{SetupData}
use Rattle.pdp_replay.specs.Run.States.{at, punched_at, state_at, text_at}
use Rattle.pdp_replay.proofs.run.Agreeing.{Agree, same_first_touches, same_kept_text, same_kept_punched}
use Rattle.pdp_replay.proofs.run.KeptTexts.{text_kept_over, punched_kept_over, text_kept_before, punched_kept_before, text_kept_reaches, punched_kept_reaches}
use Rattle.pdp_replay.proofs.run.RunFirstTouches.{first_touches_cut, first_touches_turned}

-- the texts after turn n, of which all before the known turn were there
pub texts_turned : (p : Past) (known n : ℕ) (m now : MachineWithTexts) → KeepsTexts p known m → n ≤ known → m.state ≡ at p n
    → now.kept_text ≡ printed_kept (events_at p.script.entries n) m → now.kept_punched ≡ punched_kept (events_at p.script.entries n) m
    → now.first_touches ≡ first_touches_after (turn_trace m.state.turn (events_at p.script.entries n) m.state.world) m.first_touches
    → KeepsTexts p (max known (n + 1)) now
texts_turned p known n m now keeps le here text punched first_touches = record {
  text = text
      ∙ ap (λ (s : MachineState). kept_over s.turn (printed_in s.turn (events_at p.script.entries n) s.world) (length s.text) m.kept_text) here
      ∙ ap (kept_over n (printed_in n (events_at p.script.entries n) (at p n).world) (length (at p n).text)) keeps.text
      ∙ text_kept_over p n known le;
  punched = punched
      ∙ ap (λ (s : MachineState). kept_over s.turn (punched_in s.turn (events_at p.script.entries n) s.world) (length s.punched) m.kept_punched) here
      ∙ ap (kept_over n (punched_in n (events_at p.script.entries n) (at p n).world) (length (at p n).punched)) keeps.punched
      ∙ punched_kept_over p n known le;
  first_touches = first_touches
      ∙ ap (λ (s : MachineState). first_touches_after (turn_trace s.turn (events_at p.script.entries n) s.world) m.first_touches) here
      ∙ ap (first_touches_after (turn_trace n (events_at p.script.entries n) (at p n).world)) keeps.first_touches
      ∙ first_touches_turned p n known le;
}

-- the texts of a lesser known turn
pub texts_cut : (p : Past) (known k : ℕ) (m now : MachineWithTexts) → KeepsTexts p known m → k ≤ known → k ≤ never
    → now.kept_text ≡ kept_before k m.kept_text → now.kept_punched ≡ kept_before k m.kept_punched → now.first_touches ≡ all_first_touches_before k m.first_touches → KeepsTexts p k now
texts_cut p known k m now keeps le small text punched first_touches = record {
  text = text ∙ ap (kept_before k) keeps.text ∙ text_kept_before p k known le;
  punched = punched ∙ ap (kept_before k) keeps.punched ∙ punched_kept_before p k known le;
  first_touches = first_touches ∙ ap (all_first_touches_before k) keeps.first_touches ∙ first_touches_cut p k known le small;
}

-- a machine that keeps the same bytes
pub texts_stay : (p : Past) (known : ℕ) (m now : MachineWithTexts) → KeepsTexts p known m
    → now.kept_text ≡ m.kept_text → now.kept_punched ≡ m.kept_punched → now.first_touches ≡ m.first_touches → KeepsTexts p known now
texts_stay p known m now keeps text punched first_touches = record { text = text ∙ keeps.text; punched = punched ∙ keeps.punched; first_touches = first_touches ∙ keeps.first_touches }

-- they are those of each past that agrees with this one up to there
pub texts_agree : (p q : Past) (known : ℕ) (m : MachineWithTexts) → Agree p q known → KeepsTexts p known m → KeepsTexts q known m
texts_agree p q known m agree keeps = record {
  text = keeps.text ∙ same_kept_text p q known agree;
  punched = keeps.punched ∙ same_kept_punched p q known agree;
  first_touches = keeps.first_touches ∙ same_first_touches p q known agree;
}

-- a machine on the same world
pub built_stays : (s : SetupData) (m now : MachineWithTexts) → IsBuiltFrom s m → now.state.world ≡ m.state.world → IsBuiltFrom s now
built_stays s m now built same = record {
  tape = rw same built.tape;
  core = rw same built.core;
  stamps = rw same built.stamps;
  drives = rw same built.drives;
}

abbrev state_of : ℕ → World → List ℕ → List ℕ → MachineState
state_of n w text punched = record { turn = n; world = w; text = text; punched = punched }

-- texts that are cut after a state leave it
pub cut_after : (p : Past) (n printed punched : ℕ) → length (text_at p n) ≤ printed → length (punched_at p n) ≤ punched → state_cut printed punched (at p n) ≡ at p n
cut_after p n printed punched long also =
    ap₂ (state_of n (state_at p n)) (take_all printed (text_at p n) long) (take_all punched (punched_at p n) also)

-- a machine in a state of the run is still in it if the texts are those of a lesser known turn, but
-- not of one before it
pub in_run_cut : (p : Past) (known k : ℕ) (m now : MachineWithTexts) → IsInRun p known m → KeepsTexts p k now → m.state.turn ≤ k
    → now.state ≡ state_cut (length now.kept_text) (length now.kept_punched) m.state → IsInRun p k now
in_run_cut p known k m now there texts le state =
    let n : ℕ = m.state.turn in
    let text_is = texts.text in
    let punched_is = texts.punched in
    let here : now.state ≡ at p n =
    state
    ∙ ap (state_cut (length now.kept_text) (length now.kept_punched)) there.here
    ∙ cut_after p n (length now.kept_text) (length now.kept_punched) (rw text_is (text_kept_reaches p n k le)) (rw punched_is (punched_kept_reaches p n k le)) in
    let turn : now.state.turn ≡ n = ap (λ (s : MachineState). s.turn) here in
    record { here = here ∙ ap (at p) (sym turn); reached = omega (arith, turn, le) }

pub both_true : (x y : Bool) → (x && y) ≡ true → (x ≡ true) × (y ≡ true)
both_true true y both = (refl, both)
both_true false y both = absurd cc

-- so it is where it is said to be in one still
pub in_run_lowered : (p : Past) (known k : ℕ) (m now : MachineWithTexts) (current : Bool) → (current ≡ true → IsInRun p known m) → KeepsTexts p k now
    → now.state ≡ state_cut (length now.kept_text) (length now.kept_punched) m.state → (current && nat_le now.state.turn k) ≡ true → IsInRun p k now
in_run_lowered p known k m now current run texts state still =
    let turn : now.state.turn ≡ m.state.turn = ap (λ (s : MachineState). s.turn) state in
    let both = both_true current (nat_le now.state.turn k) still in
    in_run_cut p known k m now (run both.0) texts (subst (λ n. n ≤ k) turn (leb-true now.state.turn k both.1)) state
