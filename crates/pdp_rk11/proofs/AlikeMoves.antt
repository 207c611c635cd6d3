-- Moves of the same values, and moves into lists that differ at most in a page.
use Rattle.std.proofs.Common.{◌≡◌, ◌≢◌, ◌⊎◌, ℕ, zero, suc, ◌+◌, ◌/◌, ◌<◌, ◌≤◌, Bool, true, false, List, refl, sym, subst, ◌∙◌, ap, arith, inl, inr, length, slice_index, slice_set, length-set, get_or-set_same, get_or-set_other, if◌then◌else◌}
use Rattle.std.proofs.lemmas.Bool.{cases_eq, cases_lt}
use Rattle.std.proofs.lemmas.List.{set_past}
use Rattle.pdp_store.specs.Parts.{AlikeWords}
use Rattle.pdp_store.specs.TracedAccess.{Avoids, TracedAccess}
use Rattle.pdp_store.specs.declared.part.Part.{Part}
use Rattle.pdp_store.proofs.Traces.{Avoids-first, Avoids-second}
use Rattle.pdp_rk11.specs.Moves.{any_below, moved_items, moved_to_one}
use Rattle.pdp_rk11.specs.Trace.{joined_lists}
use Rattle.pdp_rk11.specs.Handbook.Transfer.{moved_to_core}
use Rattle.pdp_rk11.specs.declared.transfer.Transfer.{Transfer}
use Rattle.pdp_rk11.proofs.Fronts.{moved_one_more}
use Rattle.pdp_rk11.proofs.Moves.{moved_none}

-- the same values moved
pub moved_same : {A : Type 0} (first n : ℕ) (value other : ℕ → A) (xs : List A) → ((i : ℕ) → i < n → other i ≡ value i)
    → moved_items first n other xs ≡ moved_items first n value xs
moved_same first zero value other xs same = moved_none first other xs ∙ sym (moved_none first value xs)
moved_same first (suc n) value other xs same =
    moved_one_more first n other xs
    ∙ ap (λ x. slice_set (moved_items first n other xs) (first + n) x) (same n (omega arith))
    ∙ ap (λ ys. slice_set ys (first + n) (value n)) (moved_same first n value other xs (λ i below. same i (omega arith)))
    ∙ sym (moved_one_more first n value xs)

to_one_same : {A : Type 0} (item n : ℕ) (value other : ℕ → A) (xs : List A) → ((i : ℕ) → i < n → other i ≡ value i)
    → moved_to_one item n other xs ≡ moved_to_one item n value xs
to_one_same item zero value other xs same = refl
to_one_same item (suc n) value other xs same = ap (λ x. slice_set xs item x) (same n (omega arith))

pub to_core_same : (t : Transfer) (value other : ℕ → ℕ) (xs : List ℕ) → ((i : ℕ) → i < t.count → other i ≡ value i)
    → moved_to_core t other xs ≡ moved_to_core t value xs
to_core_same t value other xs same = by_kind t.no_increment where
  by_kind : (one : Bool)
      → (if one then moved_to_one t.core_start t.count other xs else moved_items t.core_start t.count other xs)
      ≡ (if one then moved_to_one t.core_start t.count value xs else moved_items t.core_start t.count value xs)
  by_kind true = to_one_same t.core_start t.count value other xs same
  by_kind false = moved_same t.core_start t.count value other xs same

pub any_same : (n : ℕ) (p q : ℕ → Bool) → ((i : ℕ) → i < n → q i ≡ p i) → any_below n q ≡ any_below n p
any_same zero p q same = refl
any_same (suc n) p q same = rw (same n (omega arith), any_same n p q (λ i below. same i (omega arith))) refl

-- a word set in both of two lists
alike_set : (page : ℕ) (xs ys : List ℕ) (word value : ℕ) → AlikeWords page xs ys
    → AlikeWords page (slice_set xs word value) (slice_set ys word value)
alike_set page xs ys word value alike = record {
  size = length-set ys word value ∙ alike.size ∙ sym (length-set xs word value);
  words = λ k outside. at k outside (cases_eq k word) (cases_lt word (length xs));
} where
  at : (k : ℕ) → k / 256 ≢ page → k ≡ word ⊎ (k ≢ word) → word < length xs ⊎ length xs ≤ word
      → slice_index (slice_set ys word value) k ≡ slice_index (slice_set xs word value) k
  at k outside (inr other) there =
      get_or-set_other ys word k value 0 other ∙ alike.words k outside ∙ sym (get_or-set_other xs word k value 0 other)
  at k outside (inl same) (inl there) =
      let also : word < length ys = omega (arith, alike.size) in
      rw same (get_or-set_same ys word value 0 also ∙ sym (get_or-set_same xs word value 0 there))
  at k outside (inl same) (inr past) =
      let also : length ys ≤ word = omega (arith, alike.size) in
      ap (λ zs. slice_index zs k) (set_past ys word value also)
      ∙ alike.words k outside
      ∙ ap (λ zs. slice_index zs k) (sym (set_past xs word value past))

pub alike_moved : (page first n : ℕ) (value : ℕ → ℕ) (xs ys : List ℕ) → AlikeWords page xs ys
    → AlikeWords page (moved_items first n value xs) (moved_items first n value ys)
alike_moved page first zero value xs ys alike = rw (moved_none first value xs, moved_none first value ys) alike
alike_moved page first (suc n) value xs ys alike =
    rw (moved_one_more first n value xs, moved_one_more first n value ys)
    (alike_set page (moved_items first n value xs) (moved_items first n value ys) (first + n) (value n) (alike_moved page first n value xs ys alike))

alike_to_one : (page item n : ℕ) (value : ℕ → ℕ) (xs ys : List ℕ) → AlikeWords page xs ys
    → AlikeWords page (moved_to_one item n value xs) (moved_to_one item n value ys)
alike_to_one page item zero value xs ys alike = alike
alike_to_one page item (suc n) value xs ys alike = alike_set page xs ys item (value n) alike

pub alike_to_core : (page : ℕ) (t : Transfer) (value : ℕ → ℕ) (xs ys : List ℕ) → AlikeWords page xs ys
    → AlikeWords page (moved_to_core t value xs) (moved_to_core t value ys)
alike_to_core page t value xs ys alike = by_kind t.no_increment where
  by_kind : (one : Bool)
      → AlikeWords page (if one then moved_to_one t.core_start t.count value xs else moved_items t.core_start t.count value xs)
      (if one then moved_to_one t.core_start t.count value ys else moved_items t.core_start t.count value ys)
  by_kind true = alike_to_one page t.core_start t.count value xs ys alike
  by_kind false = alike_moved page t.core_start t.count value xs ys alike

-- what a joined trace avoids, each of its parts avoids
part_avoids : (part : Part) (page : ℕ) (f : ℕ → List TracedAccess) (n : ℕ) → Avoids part page (joined_lists f n) → (i : ℕ) → i < n
    → Avoids part page (f i)
part_avoids part page f zero avoids i below = absurd (omega arith)
part_avoids part page f (suc n) avoids i below = elim (cases_lt i n) [
  | inl less ↦ part_avoids part page f n (Avoids-first part page (joined_lists f n) (f n) avoids) i less
  | inr more ↦
      let last : n ≡ i = omega arith in
      subst (λ j. Avoids part page (f j)) last (Avoids-second part page (joined_lists f n) (f n) avoids)
]

-- words that are touched outside of the page are the same in both lists
pub read_alike : (part : Part) (page : ℕ) (f : ℕ → List TracedAccess) (n : ℕ) (word : ℕ → ℕ) (xs ys : List ℕ) → AlikeWords page xs ys
    → Avoids part page (joined_lists f n) → ((i : ℕ) → Avoids part page (f i) → word i / 256 ≢ page) → (i : ℕ) → i < n
    → slice_index ys (word i) ≡ slice_index xs (word i)
read_alike part page f n word xs ys alike avoids outside i below =
    alike.words (word i) (outside i (part_avoids part page f n avoids i below))
