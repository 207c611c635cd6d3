-- How many states and former runs a ladder keeps at most.
use Rattle.std.proofs.Common.{◌≡◌, ◌∙◌, ◌+◌, ◌≤◌, ◌++◌, ◌⊎◌, ⊎_elim, ℕ, zero, suc, Bool, true, false, if◌then◌else◌, List, [], ◌∷◌, ap, arith, get_or, length, length-append, map, subst, sym}
use Rattle.std.specs.List.{All, filter, remove}
use Rattle.std.proofs.lemmas.List.{length-map}
use Rattle.std.proofs.lemmas.Option.{get_or_from_slice_get, slice_get_within}
use Rattle.pdp_checkpoint.specs.declared.checkpoint.Checkpoint.{Checkpoint}
use Rattle.pdp_checkpoint.specs.Formers.{AreFewFormers, FormerData, HasFewStates, IsFormerIn, IsLeft, former_edited, most_formers, most_states, with_states}
use Rattle.pdp_checkpoint.specs.Ladder.{AreCheckpoints, IsLadder, LadderData}

pub filtered_fewer : {X : Type 0} (p : X → Bool) (xs : List X) → length (filter p xs) ≤ length xs
filtered_fewer p [] = omega arith
filtered_fewer p (x ∷ xs) = by (p x) (filtered_fewer p xs) where
  by : (b : Bool) → length (filter p xs) ≤ length xs → length (if b then x ∷ filter p xs else filter p xs) ≤ suc (length xs)
  by true fewer = omega (arith, fewer)
  by false fewer = omega (arith, fewer)

-- an item is added, or none
pub one_longer : {X : Type 0} (before after : List X) (x : X) → (after ≡ before ++ x ∷ []) ⊎ (after ≡ before) → length after ≤ length before + 1
one_longer before after x added =
    ⊎_elim
    (λ (more : after ≡ before ++ x ∷ []). let size = ap length more ∙ length-append before (x ∷ []) in omega (arith, size))
    (λ (same : after ≡ before). let size = ap length same in omega (arith, size))
    added

pub pushed_size : {X : Type 0} (before after : List X) (x : X) → after ≡ before ++ x ∷ [] → length after ≡ length before + 1
pushed_size before after x is = ap length is ∙ length-append before (x ∷ [])

-- the first of some states goes
pub one_removed : (before now : List Checkpoint) (n : ℕ) → now ≡ remove before 0 → length before ≤ n + 1 → length now ≤ n
one_removed before now n is le = rw is (by before le) where
  by : (xs : List Checkpoint) → length xs ≤ n + 1 → length (remove xs 0) ≤ n
  by [] few = omega arith
  by (x ∷ xs) few = omega (arith, few)

pub no_formers : AreFewFormers []
no_formers = record { count = omega arith; states = λ k d inside. absurd (omega (arith, inside)) }

pub few_if_none : (formers : List FormerData) → formers ≡ [] → AreFewFormers formers
few_if_none formers none = subst AreFewFormers (sym none) no_formers

pub few_if_same : (formers others : List FormerData) → formers ≡ others → AreFewFormers others → AreFewFormers formers
few_if_same formers others same few = subst AreFewFormers (sym same) few

-- a ladder without states between its checkpoints and without former runs
pub bounded_first : (l : LadderData) → AreCheckpoints l → l.near ≡ [] → l.formers ≡ [] → IsLadder l
bounded_first l checkpoints none no_former = record {
  checkpoints = checkpoints;
  near = let size = ap length none in omega (arith, size);
  formers = few_if_none l.formers no_former;
}

-- events of former runs were edited
pub formers_edited : (turn : ℕ) (formers : List FormerData) → AreFewFormers formers → AreFewFormers (map (former_edited turn) formers)
formers_edited turn formers few = record {
  count = let size = length-map formers (former_edited turn) in let most = few.count in omega (arith, size, most);
  states = each formers few.states;
}
  where
    each : (fs : List FormerData) → All HasFewStates fs → All HasFewStates (map (former_edited turn) fs)
    each [] all k d inside = absurd (omega (arith, inside))
    each (f ∷ fs) all zero d inside = all zero d (omega arith)
    each (f ∷ fs) all (suc k) d inside = each fs (λ i e within. all (suc i) e (omega (arith, within))) k d (omega (arith, inside))

-- a former run of these has few states if each of them has
few_in : (formers : List FormerData) (f : FormerData) → All HasFewStates formers → IsFormerIn formers f → HasFewStates f
few_in formers f all there =
    subst HasFewStates (get_or_from_slice_get formers there.place f f there.former)
    (all there.place f (slice_get_within formers there.place f there.former))

-- former runs of which each was there, or is this one with these states
pub formers_left : (kept near : List Checkpoint) (former : FormerData) (formers now : List FormerData) → length kept + length near ≤ most_states → AreFewFormers formers
    → All (IsLeft (with_states (kept ++ near) former) formers) now → length now ≤ most_formers → AreFewFormers now
formers_left kept near former formers now small few left count = record {
  count = count;
  states = λ k d inside.
      ⊎_elim
      (λ (new : get_or now k d ≡ with_states (kept ++ near) former). subst HasFewStates (sym new) here)
      (λ (old : IsFormerIn formers (get_or now k d)). few_in formers (get_or now k d) few.states old)
      (left k d inside);
}
  where
    here : HasFewStates (with_states (kept ++ near) former)
    here = let size = length-append kept near in omega (arith, size, small)
