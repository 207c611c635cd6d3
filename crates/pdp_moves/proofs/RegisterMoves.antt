-- The moves of rows that change registers, and the codes that are due.
use Rattle.std.proofs.Common.{◌≡◌, ◌∙◌, ℕ, ◌==◌, ◌&&◌, Bool, true, false, List, [], ◌∷◌, ◌++◌, Option, Some, None, refl, ap, subst, if◌then◌else◌}
use Rattle.std.proofs.lemmas.Bool.{eqb-true}
use Rattle.pdp_operand.specs.declared.processor.RegisterId.{RegisterId}
use Rattle.pdp_instruction.specs.declared.pair.Pair.{Pair}
use Rattle.pdp_made.specs.Cells.{Half, Low, High, Negative, Zero, Overflow, Carry, DataCell, RegisterByte, CodeDue}
use Rattle.pdp_made.specs.InstructionRows.{due_changed, pair_changed}
use Rattle.pdp_made.specs.ReferenceRows.{each_code, of_each, register_changed}
use Rattle.pdp_moves.specs.Built.{code_moves, half_moves, is_same_register, is_same_place, pair_moves, place_moves, place_of_register, shift_moves}
use Rattle.pdp_moves.specs.Moves.{AreDistinct, AreMoves, Move, is_cell_among, is_half, moves_to}
use Rattle.pdp_moves.proofs.Same.{same_number}
use Rattle.pdp_moves.proofs.RowMoves.{alike, appended, both, by, by_place, changed_at, of_both, of_codes, other_at}

module _ (from : List DataCell) where
  -- the codes that are due alone
  due : AreMoves (due_changed from) (code_moves CodeDue (λ _. from))
  due = by (due_changed from) (each_code CodeDue) (record { others = others; distinct = (refl, (refl, (refl, (refl, tt)))) }) (of_codes (due_changed from) CodeDue)
    where
      others : (c : DataCell) → is_cell_among (each_code CodeDue) c ≡ false → due_changed from c ≡ c ∷ []
      others (CodeDue Negative) is = absurd (cc is)
      others (CodeDue Zero) is = absurd (cc is)
      others (CodeDue Overflow) is = absurd (cc is)
      others (CodeDue Carry) is = absurd (cc is)
      others c is = refl

  abbrev shifted : Option ℕ → DataCell → List DataCell
  shifted place = changed_at place (of_each from) (due_changed from)

  -- a half of another register than the one at a place, before the codes
  other_before_codes : (half : Half) (same : Bool)
      → (if is_half half Low && same then true else (if is_half half High && same then true else false)) ≡ false → same ≡ false
  other_before_codes = other_at

  at_place : (k : ℕ) → AreMoves (shifted (Some k)) (place_moves (Some k) (of_each from) ++ code_moves CodeDue (λ _. from))
  at_place k = by made (both bytes ++ each_code CodeDue) (record { others = others; distinct = (refl, (refl, (refl, (refl, (refl, (refl, tt)))))) })
      (appended made (both bytes) (each_code CodeDue)
      ∙ ap (λ xs. xs ++ moves_to made (each_code CodeDue)) (of_both made bytes ∙ rw (same_number k) refl)
      ∙ ap (λ xs. half_moves bytes (of_each from) ++ xs) (of_codes made CodeDue))
    where
      made : DataCell → List DataCell
      made = shifted (Some k)

      bytes : Half → DataCell
      bytes half = RegisterByte k half

      others : (c : DataCell) → is_cell_among (both (λ half. RegisterByte k half) ++ each_code CodeDue) c ≡ false → shifted (Some k) c ≡ c ∷ []
      others (RegisterByte n half) is = rw (other_before_codes half (n == k) is) refl
      others (CodeDue Negative) is = absurd (cc is)
      others (CodeDue Zero) is = absurd (cc is)
      others (CodeDue Overflow) is = absurd (cc is)
      others (CodeDue Carry) is = absurd (cc is)
      others c is = refl

  at : (place : Option ℕ) → AreMoves (shifted place) (place_moves place (of_each from) ++ code_moves CodeDue (λ _. from))
  at None = due
  at (Some k) = at_place k

  pub shifts_move : (id : RegisterId) → AreMoves (register_changed id (of_each from) (due_changed from)) (shift_moves id from)
  shifts_move id = alike (shifted (place_of_register id)) _ _ (at (place_of_register id)) (by_place id (of_each from) (due_changed from))

  -- two registers, of which the second is written last
  abbrev paired : Option ℕ → Option ℕ → DataCell → List DataCell
  paired high low = changed_at low (of_each from) (changed_at high (of_each from) (due_changed from))

  -- a half of another register than the two
  neither : (half : Half) (first second : Bool)
      → (if is_half half Low && first then true else (if is_half half High && first then true else
      (if is_half half Low && second then true else (if is_half half High && second then true else false)))) ≡ false → (first ≡ false) × (second ≡ false)
  neither Low true second is = absurd (cc is)
  neither High true second is = absurd (cc is)
  neither Low false true is = absurd (cc is)
  neither High false true is = absurd (cc is)
  neither half false false is = (refl, refl)

  two : (n k : ℕ) → (n == k) ≡ false → AreMoves (paired (Some n) (Some k)) (place_moves (Some n) (of_each from) ++ (place_moves (Some k) (of_each from) ++ code_moves CodeDue (λ _. from)))
  two n k differ = by made (both high ++ (both low ++ each_code CodeDue)) (record { others = others; distinct = distinct })
      (appended made (both high) (both low ++ each_code CodeDue)
      ∙ ap (λ xs. moves_to made (both high) ++ xs) (appended made (both low) (each_code CodeDue))
      ∙ ap (λ xs. xs ++ (moves_to made (both low) ++ moves_to made (each_code CodeDue))) (of_both made high ∙ rw (differ, same_number n) refl)
      ∙ ap (λ xs. half_moves high (of_each from) ++ (xs ++ moves_to made (each_code CodeDue))) (of_both made low ∙ rw (same_number k) refl)
      ∙ ap (λ xs. half_moves high (of_each from) ++ (half_moves low (of_each from) ++ xs)) (of_codes made CodeDue))
    where
      made : DataCell → List DataCell
      made = paired (Some n) (Some k)

      high : Half → DataCell
      high half = RegisterByte n half

      low : Half → DataCell
      low half = RegisterByte k half

      distinct : AreDistinct (both (λ half. RegisterByte n half) ++ (both (λ half. RegisterByte k half) ++ each_code CodeDue))
      distinct = (rw differ refl, (rw differ refl, (refl, (refl, (refl, (refl, (refl, (refl, tt))))))))

      others : (c : DataCell) → is_cell_among (both (λ half. RegisterByte n half) ++ (both (λ half. RegisterByte k half) ++ each_code CodeDue)) c ≡ false
          → paired (Some n) (Some k) c ≡ c ∷ []
      others (RegisterByte m half) is = let apart = neither half (m == n) (m == k) is in rw (apart.0, apart.1) refl
      others (CodeDue Negative) is = absurd (cc is)
      others (CodeDue Zero) is = absurd (cc is)
      others (CodeDue Overflow) is = absurd (cc is)
      others (CodeDue Carry) is = absurd (cc is)
      others c is = refl

  -- both are one
  one : (k : ℕ) → AreMoves (paired (Some k) (Some k)) (place_moves (Some k) (of_each from) ++ code_moves CodeDue (λ _. from))
  one k = alike (shifted (Some k)) (paired (Some k) (Some k)) _ (at_place k) same
    where
      same_if : (half : Half) (n : ℕ) (top : Bool) → (if top then from else due_changed from (RegisterByte n half))
          ≡ (if top then from else (if top then from else due_changed from (RegisterByte n half)))
      same_if half n true = refl
      same_if half n false = refl

      same : (c : DataCell) → shifted (Some k) c ≡ paired (Some k) (Some k) c
      same (RegisterByte n half) = same_if half n (n == k)
      same c = refl

  pair_if : (n k : ℕ) (same : Bool) → (n == k) ≡ same → AreMoves (paired (Some n) (Some k))
      (if same then place_moves (Some k) (of_each from) ++ code_moves CodeDue (λ _. from)
      else place_moves (Some n) (of_each from) ++ (place_moves (Some k) (of_each from) ++ code_moves CodeDue (λ _. from)))
  pair_if n k true is = rw (eqb-true n k is) (one k)
  pair_if n k false is = two n k is

  abbrev place_pair : Bool → Option ℕ → Option ℕ → List Move
  place_pair same high low = if same then place_moves low (of_each from) ++ code_moves CodeDue (λ _. from)
      else place_moves high (of_each from) ++ (place_moves low (of_each from) ++ code_moves CodeDue (λ _. from))

  pair_at : (high low : Option ℕ) → AreMoves (paired high low) (place_pair (is_same_place high low) high low)
  pair_at (Some n) (Some k) = pair_if n k (n == k) refl
  pair_at None None = due
  pair_at None (Some k) = at_place k
  pair_at (Some n) None = at_place n

  of_pair : (same : Bool) (high low : RegisterId) → place_pair same (place_of_register high) (place_of_register low) ≡ pair_moves same high low from
  of_pair true high low = refl
  of_pair false high low = refl

  through : (id : RegisterId) (one other : DataCell → List DataCell) → ((c : DataCell) → one c ≡ other c) → (place : Option ℕ) (c : DataCell)
      → changed_at place (of_each from) one c ≡ changed_at place (of_each from) other c
  through id one other same (Some k) (RegisterByte n half) = ap (λ rest. if n == k then from else rest) (same (RegisterByte n half))
  through id one other same None (RegisterByte n half) = same (RegisterByte n half)
  through id one other same (Some k) c = same c
  through id one other same None c = same c

  pub pairs_move : (pair : Pair) → AreMoves (pair_changed pair from) (pair_moves (is_same_register pair.high pair.low) pair.high pair.low from)
  pairs_move pair = subst (λ moves. AreMoves (pair_changed pair from) moves) (of_pair (is_same_register pair.high pair.low) pair.high pair.low)
      (alike (paired (place_of_register pair.high) (place_of_register pair.low)) (pair_changed pair from)
      (place_pair (is_same_register pair.high pair.low) (place_of_register pair.high) (place_of_register pair.low))
      (pair_at (place_of_register pair.high) (place_of_register pair.low)) same)
    where
      same : (c : DataCell) → paired (place_of_register pair.high) (place_of_register pair.low) c ≡ pair_changed pair from c
      same c = through pair.low _ _ (by_place pair.high (of_each from) (due_changed from)) (place_of_register pair.low) c
          ∙ by_place pair.low (of_each from) (register_changed pair.high (of_each from) (due_changed from)) c
