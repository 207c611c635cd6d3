-- A transfer move by move: its first so many moves, and one more.
use Rattle.std.proofs.Common.{◌≡◌, ℕ, zero, suc, ◌+◌, Bool, true, false, List, refl, sym, length, slice_set, if◌then◌else◌}
use Rattle.std.proofs.Math.Numerals.{add-one}
use Rattle.std.proofs.lemmas.List.{set-set}
use Rattle.pdp_rk11.specs.Moves.{moved_items, moved_to_one}
use Rattle.pdp_rk11.specs.Handbook.Transfer.{core_word, moved_to_core}
use Rattle.pdp_rk11.specs.declared.transfer.Transfer.{Transfer}
use Rattle.pdp_rk11.proofs.Moves.{length-moved, length-moved_to_one, moved_more, moved_none}

-- the first so many moves of a transfer
abbrev pub front : Transfer → ℕ → Transfer
front t n = record t { count = n }

pub moved_one_more : {A : Type 0} (first n : ℕ) (value : ℕ → A) (xs : List A)
    → moved_items first (suc n) value xs ≡ slice_set (moved_items first n value xs) (first + n) (value n)
moved_one_more first n value xs = rw add-one at (moved_more first n value xs)

one_more_to_one : {A : Type 0} (item n : ℕ) (value : ℕ → A) (xs : List A)
    → slice_set xs item (value n) ≡ slice_set (moved_to_one item n value xs) item (value n)
one_more_to_one item zero value xs = refl
one_more_to_one item (suc n) value xs = sym (set-set xs item (value n) (value (suc n)))

pub length-moved_to_core : {A : Type 0} (t : Transfer) (value : ℕ → A) (xs : List A) → length (moved_to_core t value xs) ≡ length xs
length-moved_to_core t value xs = by_kind t.no_increment where
  by_kind : (one : Bool)
      → length (if one then moved_to_one t.core_start t.count value xs else moved_items t.core_start t.count value xs) ≡ length xs
  by_kind true = length-moved_to_one t.core_start t.count value xs
  by_kind false = length-moved t.core_start t.count value xs

pub no_move : {A : Type 0} (t : Transfer) (value : ℕ → A) (xs : List A) → moved_to_core (front t 0) value xs ≡ xs
no_move t value xs = by_kind t.no_increment where
  by_kind : (one : Bool) → (if one then xs else moved_items t.core_start 0 value xs) ≡ xs
  by_kind true = refl
  by_kind false = moved_none t.core_start value xs

pub one_more_move : {A : Type 0} (t : Transfer) (n : ℕ) (value : ℕ → A) (xs : List A)
    → moved_to_core (front t (suc n)) value xs ≡ slice_set (moved_to_core (front t n) value xs) (core_word t n) (value n)
one_more_move t n value xs = by_kind t.no_increment where
  by_kind : (one : Bool)
      → (if one then moved_to_one t.core_start (suc n) value xs else moved_items t.core_start (suc n) value xs)
      ≡ slice_set (if one then moved_to_one t.core_start n value xs else moved_items t.core_start n value xs)
      (if one then t.core_start else t.core_start + n) (value n)
  by_kind true = one_more_to_one t.core_start n value xs
  by_kind false = moved_one_more t.core_start n value xs
