-- Searches for the first of some turns that has a property, part by part.
use Rattle.std.proofs.Common.{◌≡◌, ◌∙◌, ℕ, ◌+◌, ◌-◌, ◌<◌, ◌≤◌, ⊎_elim, Bool, Option, None, Some, ap, arith, false, refl, subst, suc, sym, true, zero}
use Rattle.std.proofs.lemmas.Bool.{cases_lt}
use Rattle.pdp_cpu.specs.Handbook.MachineState.{MachineState, after_turn}
use Rattle.pdp_script.specs.Entries.{events_at}
use Rattle.pdp_script.specs.Script.{ScriptData}
use Rattle.pdp_replay.specs.Past.{Past}
use Rattle.pdp_replay.specs.Run.States.{at}
use Rattle.pdp_replay.specs.Ask.Searches.{EndsAfter, HoldsNowhere, IsFirst, first_turn_of, or_turn}
use Rattle.pdp_replay.proofs.run.States.{at_next}

-- the machine after one more turn
pub reached_one : (p : Past) (script : ScriptData) (before after : MachineState) → p.script ≡ script → before ≡ at p before.turn
    → after ≡ after_turn (events_at script.entries before.turn) before → after.turn ≡ before.turn + 1 → after ≡ at p after.turn
reached_one p script before after same here is turn =
    is
    ∙ ap (λ (s : ScriptData). after_turn (events_at s.entries before.turn) before) (sym same)
    ∙ ap (after_turn (events_at p.script.entries before.turn)) here
    ∙ sym (at_next p before.turn)
    ∙ ap (at p) (sym turn)

-- one turn more without the property
pub nowhere_next : (holds : ℕ → Bool) (from to next : ℕ) → HoldsNowhere holds from to → next ≡ to + 1 → holds to ≡ false
    → HoldsNowhere holds from next
nowhere_next holds from to next before is none =
    λ turn least below.
    ⊎_elim
    (λ earlier. before turn least earlier)
    (λ late. let here : to ≡ turn = omega (arith, late, below, is) in subst (λ n. holds n ≡ false) here none)
    (cases_lt turn to)

-- one part after another without the property
pub nowhere_on : (holds : ℕ → Bool) (from mid to : ℕ) → HoldsNowhere holds from mid → HoldsNowhere holds mid to → HoldsNowhere holds from to
nowhere_on holds from mid to first then =
    λ turn least below. ⊎_elim (λ earlier. first turn least earlier) (λ late. then turn late below) (cases_lt turn mid)

-- a part without the property, and then the first turn of another
pub first_on : (holds : ℕ → Bool) (from mid to : ℕ) (found : Option ℕ) → from ≤ mid → HoldsNowhere holds from mid
    → IsFirst holds mid to found → IsFirst holds from to found
first_on holds from mid to (Some t) order none is =
    let least = is.least in
    record { least = omega (arith, least, order); most = is.most; there = is.there; none = nowhere_on holds from mid t none is.none }
first_on holds from mid to None order none is = nowhere_on holds from mid to none is

-- the first of one turn
pub first_turn : (holds : ℕ → Bool) (t now : ℕ) (there : Bool) → holds t ≡ there → now ≡ t + 1 → IsFirst holds t now (or_turn None there t)
first_turn holds t now true is next =
    record { least = omega arith; most = omega (arith, next); there = is; none = λ turn least below. absurd (omega (arith, least, below)) }
first_turn holds t now false is next =
    λ turn least below. let same : t ≡ turn = omega (arith, least, below, next) in subst (λ n. holds n ≡ false) same is

pub ends_after_turn : (t now : ℕ) (there : Bool) → now ≡ t + 1 → EndsAfter now (or_turn None there t)
ends_after_turn t now true next = next
ends_after_turn t now false next = refl

none_of : (holds : ℕ → Bool) (from n : ℕ) → HoldsNowhere holds from (from + n) → first_turn_of holds from n ≡ None
unfolding first_turn_of
none_of holds from zero none = refl
none_of holds from (suc n) none =
    let before : first_turn_of holds from n ≡ None = none_of holds from n (λ turn least below. none turn least (omega (arith, below))) in
    let last : holds (from + n) ≡ false = none (from + n) (omega arith) (omega arith) in
    rw (before, last) refl

some_of : (holds : ℕ → Bool) (from n t : ℕ) → from ≤ t → t < from + n → holds t ≡ true → HoldsNowhere holds from t
    → first_turn_of holds from n ≡ Some t
unfolding first_turn_of
some_of holds from zero t least below there none = absurd (omega (arith, least, below))
some_of holds from (suc n) t least below there none =
    ⊎_elim
    (λ earlier. rw (some_of holds from n t least earlier there none) refl)
    (λ late.
    let last : t ≡ from + n = omega (arith, late, below) in
    let before : first_turn_of holds from n ≡ None = none_of holds from n (subst (λ u. HoldsNowhere holds from u) last none) in
    let is : holds (from + n) ≡ true = subst (λ u. holds u ≡ true) last there in
    rw (before, is) (ap (λ u. Some u) (sym last)))
    (cases_lt t (from + n))

-- what is the first is what is computed
pub first_is : (holds : ℕ → Bool) (from to : ℕ) (found : Option ℕ) → from ≤ to → IsFirst holds from to found
    → found ≡ first_turn_of holds from (to - from)
first_is holds from to (Some t) order is =
    let most = is.most in
    sym (some_of holds from (to - from) t is.least (omega (arith, most, order)) is.there is.none)
first_is holds from to None order is =
    let end : to ≡ from + (to - from) = omega (arith, order) in
    sym (none_of holds from (to - from) (subst (λ u. HoldsNowhere holds from u) end is))
