-- Searches for the last of some turns that has a property, part by part from the end on.
use Rattle.std.proofs.Common.{◌≡◌, ℕ, ◌+◌, ◌-◌, ◌*◌, ◌/◌, ◌^◌, ◌<◌, ◌≤◌, ⊎_elim, Bool, Option, None, Some, ap, arith, false, max, min, refl, subst, suc, sym, true, unwrap_or, zero}
use Rattle.std.proofs.Math.Nat.{lt-div-mul-add, mul-le-mul_left, mul-le-mul_right}
use Rattle.std.proofs.lemmas.Bool.{cases_lt}
use Rattle.std.proofs.lemmas.Nat.{pow_pos}
use Rattle.std.specs.Option.{option_or}
use Rattle.pdp_replay.specs.Run.KeptRuns.{IsSomeRun, KeepsStride}
use Rattle.pdp_replay.specs.Run.Strides.{IsStride}
use Rattle.pdp_replay.specs.Ask.Backwards.{IsLastOf, IsWithinBack, last_of_turns}
use Rattle.pdp_replay.specs.Ask.Searches.{HoldsNowhere, IsFirst, turn_reached}
use Rattle.pdp_replay.specs.declared.run.kept_run.KeptRun.{KeptRun}
use Rattle.pdp_replay.proofs.ask.Searches.{nowhere_on}

-- what a part found, or what was found before it
pub last_more : (holds : ℕ → Bool) (from mid to now : ℕ) (found last : Option ℕ) → from ≤ mid → mid ≤ to → IsLastOf holds from mid last
    → IsFirst holds mid to found → now ≡ turn_reached found to → IsLastOf holds from now (option_or found last)
last_more holds from mid to now (Some t) last order up before is end =
    let least = is.least in
    record { least = omega (arith, least, order); most = omega (arith, end); there = is.there; none = λ turn low high. absurd (omega (arith, low, high, end)) }
last_more holds from mid to now None (Some t) order up before none end =
    let most = before.most in
    record {
      least = before.least;
      most = omega (arith, most, up, end);
      there = before.there;
      none = nowhere_on holds (t + 1) mid now before.none (subst (λ n. HoldsNowhere holds mid n) (sym end) none);
    }
last_more holds from mid to now None None order up before none end =
    nowhere_on holds from mid now before (subst (λ n. HoldsNowhere holds mid n) (sym end) none)

-- what a part found, if the parts after it have none
pub last_earlier : (holds : ℕ → Bool) (from mid to : ℕ) (found : Option ℕ) → mid ≤ to → HoldsNowhere holds mid to → IsLastOf holds from mid found
    → IsLastOf holds from to found
last_earlier holds from mid to (Some t) order none is =
    let most = is.most in
    record { least = is.least; most = omega (arith, most, order); there = is.there; none = nowhere_on holds (t + 1) mid to is.none none }
last_earlier holds from mid to None order none is = nowhere_on holds from mid to is none

-- the last of fewer turns is the last of all, if there is one or there are no others
pub last_within : (holds : ℕ → Bool) (from start to : ℕ) (found : Option ℕ) → from ≤ start → (found ≡ None → start ≤ from)
    → IsLastOf holds start to found → IsLastOf holds from to found
last_within holds from start to (Some t) order all is =
    let least = is.least in
    record { least = omega (arith, least, order); most = is.most; there = is.there; none = is.none }
last_within holds from start to None order all is =
    let most = all refl in
    let here : start ≡ from = omega (arith, order, most) in
    subst (λ n. HoldsNowhere holds n to) here is

last_none_of : (holds : ℕ → Bool) (from n : ℕ) → HoldsNowhere holds from (from + n) → last_of_turns holds from n ≡ None
unfolding last_of_turns
last_none_of holds from zero none = refl
last_none_of holds from (suc n) none =
    let here : holds (from + n) ≡ false = none (from + n) (omega arith) (omega arith) in
    rw here (last_none_of holds from n (λ turn least below. none turn least (omega (arith, below))))

last_some_of : (holds : ℕ → Bool) (from n t : ℕ) → from ≤ t → t < from + n → holds t ≡ true → HoldsNowhere holds (t + 1) (from + n)
    → last_of_turns holds from n ≡ Some t
unfolding last_of_turns
last_some_of holds from zero t least below there none = absurd (omega (arith, least, below))
last_some_of holds from (suc n) t least below there none =
    ⊎_elim
    (λ earlier.
    let here : holds (from + n) ≡ false = none (from + n) (omega (arith, earlier)) (omega arith) in
    let fewer : HoldsNowhere holds (t + 1) (from + n) = λ turn low high. none turn low (omega (arith, high)) in
    let rest : last_of_turns holds from n ≡ Some t = last_some_of holds from n t least earlier there fewer in
    rw here rest)
    (λ late.
    let last : t ≡ from + n = omega (arith, late, below) in
    let is : holds (from + n) ≡ true = subst (λ u. holds u ≡ true) last there in
    rw is (ap (λ u. Some u) (sym last)))
    (cases_lt t (from + n))

-- a turn that is found is before the end
pub last_before : (holds : ℕ → Bool) (from to : ℕ) (found : Option ℕ) (t : ℕ) → found ≡ Some t → IsLastOf holds from to found → t < to
last_before holds from to found t is last = let here = subst (IsLastOf holds from to) is last in here.most

-- what is the last is what is computed
pub last_is : (holds : ℕ → Bool) (from to : ℕ) (found : Option ℕ) → from ≤ to → IsLastOf holds from to found
    → found ≡ last_of_turns holds from (to - from)
last_is holds from to (Some t) order is =
    let most = is.most in
    let end : to ≡ from + (to - from) = omega (arith, order) in
    sym (last_some_of holds from (to - from) t is.least (omega (arith, most, order)) is.there (subst (λ u. HoldsNowhere holds (t + 1) u) end is.none))
last_is holds from to None order is =
    let end : to ≡ from + (to - from) = omega (arith, order) in
    sym (last_none_of holds from (to - from) (subst (λ u. HoldsNowhere holds from u) end is))

-- the stride of a run doesn't shrink
pub stride_grows : (before after : KeptRun) → IsSomeRun before → KeepsStride before after → before.ladder.stride ≤ after.ladder.stride
stride_grows before after some keeps =
    let now = keeps before.ladder.stride 0 first in
    let times : before.ladder.stride * 1 ≤ before.ladder.stride * 2 ^ now.doublings = mul-le-mul_left before.ladder.stride (pow_pos now.doublings) in
    let is = now.is in
    omega (arith, times, is)
  where
    enough : before.known < 256 * before.ladder.stride
    enough =
        let states = some.run.kept.states in
        let count = states.count in
        let few = states.checkpoints.few in
        let over : before.known < before.known / before.ladder.stride * before.ladder.stride + before.ladder.stride = lt-div-mul-add states.checkpoints.positive in
        let most : (before.known / before.ladder.stride + 1) * before.ladder.stride ≤ 256 * before.ladder.stride
        = mul-le-mul_right before.ladder.stride (omega (arith, count, few)) in
        omega (arith, over, most)

    first : IsStride before.ladder.stride (max 0 before.known) before.ladder.stride
    first = record {
      doublings = 0;
      is = omega arith;
      enough = omega (arith, enough);
      least = λ none. absurd (omega (arith, none));
    }

-- the turns that a search back to the turn that it found ran, if its last part began at `start`
pub found_near : (found : Option ℕ) (from start stride meter most : ℕ) → from ≤ start → ((t : ℕ) → found ≡ Some t → t < start + stride)
    → meter + start ≤ most + stride → meter + unwrap_or found from ≤ most + 2 * stride
found_near None from start stride meter most order near ran = omega (arith, order, ran)
found_near (Some t) from start stride meter most order near ran = let below = near t refl in omega (arith, below, ran)

-- a search back to turn n ran so many turns, if the turns up to `to` were made known before it
pub within_back : (n to known before made after stride now : ℕ) → (to ≤ known → made ≡ before) → made + min to known ≤ before + to + stride
    → stride ≤ now → after + n ≤ made + to + 2 * now → IsWithinBack n to known before after now
within_back n to known before made after stride now same bound grows ran = record {
  known_all = λ all. let is = same all in omega (arith, is, ran);
  known_less = omega (arith, bound, grows, ran);
}
