-- Moves to some cells say of each cell what it is made of, if every other cell is made of itself.
use Rattle.std.proofs.Common.{◌≡◌, ◌∙◌, Bool, true, false, List, [], ◌∷◌, ◌++◌, map, refl, ap, sym, if◌then◌else◌}
use Rattle.pdp_made.specs.Cells.{DataCell}
use Rattle.pdp_moves.specs.Moves.{AllMove, AreAll, AreDistinct, AreMoves, is_cell_among, is_cell, is_itself, move_to, moves_to, sources_in}
use Rattle.pdp_moves.proofs.Same.{cell_is, same_cell}

module _ (made : DataCell → List DataCell) where
  -- what is said of a cell
  abbrev Said : List DataCell → DataCell → Type 0
  Said cells c = sources_in (moves_to made cells) c ≡ (if is_cell_among cells c then made c else c ∷ [])

  itself : (d : DataCell) (sources : List DataCell) → is_itself d sources ≡ true → sources ≡ d ∷ []
  itself d [] is = absurd (cc is)
  itself d (e ∷ []) is = ap (λ x. x ∷ []) (sym (cell_is d e is))
  itself d (e ∷ f ∷ more) is = absurd (cc is)

  -- the cell is made of itself, so it doesn't move: the rest says it too
  kept : (d : DataCell) (cells : List DataCell) (among : Bool) → is_cell_among cells d ≡ among → made d ≡ d ∷ [] → Said cells d
      → sources_in (moves_to made cells) d ≡ made d
  kept d cells true is own said = said ∙ rw is refl
  kept d cells false is own said = said ∙ (rw is (sym own))

  here : (d : DataCell) (cells : List DataCell) (stays : Bool) → is_itself d (made d) ≡ stays → Said cells d
      → sources_in ((if stays then [] else record { cell = d; sources = made d } ∷ []) ++ moves_to made cells) d ≡ made d
  here d cells true is said = kept d cells (is_cell_among cells d) refl (itself d (made d) is) said
  here d cells false is said = rw (same_cell d) refl

  there : (c d : DataCell) (cells : List DataCell) (stays : Bool) → is_cell c d ≡ false → Said cells c
      → sources_in ((if stays then [] else record { cell = d; sources = made d } ∷ []) ++ moves_to made cells) c
      ≡ (if is_cell_among cells c then made c else c ∷ [])
  there c d cells true other said = said
  there c d cells false other said = rw other said

  next : (c d : DataCell) (cells : List DataCell) (same : Bool) → is_cell c d ≡ same → Said cells c → Said cells d
      → sources_in (move_to d (made d) ++ moves_to made cells) c
      ≡ (if (if same then true else is_cell_among cells c) then made c else c ∷ [])
  next c d cells true is said said_here = rw (cell_is c d is) (here d cells (is_itself d (made d)) refl said_here)
  next c d cells false is said said_here = there c d cells (is_itself d (made d)) is said

  says : (cells : List DataCell) (c : DataCell) → Said cells c
  says [] c = refl
  says (d ∷ cells) c = next c d cells (is_cell c d) refl (says cells c) (says cells d)

  -- a cell that isn't there doesn't move
  absent : (cells : List DataCell) (c : DataCell) → is_cell_among cells c ≡ false → is_cell_among (map (λ m. m.cell) (moves_to made cells)) c ≡ false
  absent [] c not_there = refl
  absent (d ∷ cells) c not_there = absent_next c d cells (is_cell c d) (is_itself d (made d)) refl not_there (absent cells c)
    where
      absent_next : (c d : DataCell) (cells : List DataCell) (same stays : Bool) → is_cell c d ≡ same → (if same then true else is_cell_among cells c) ≡ false
          → (is_cell_among cells c ≡ false → is_cell_among (map (λ m. m.cell) (moves_to made cells)) c ≡ false)
          → is_cell_among (map (λ m. m.cell) ((if stays then [] else record { cell = d; sources = made d } ∷ []) ++ moves_to made cells)) c ≡ false
      absent_next c d cells true stays is not_there rest = absurd (cc not_there)
      absent_next c d cells false true is not_there rest = rest not_there
      absent_next c d cells false false is not_there rest = rw is (rest not_there)

  moving : (d : DataCell) (cells : List DataCell) (stays : Bool) → is_itself d (made d) ≡ stays → is_cell_among cells d ≡ false → AllMove (moves_to made cells)
      → AllMove ((if stays then [] else record { cell = d; sources = made d } ∷ []) ++ moves_to made cells)
  moving d cells true is not_there rest = rest
  moving d cells false is not_there rest = (is, absent cells d not_there, rest)

  all_move : (cells : List DataCell) → AreDistinct cells → AllMove (moves_to made cells)
  all_move [] distinct = tt
  all_move (d ∷ cells) distinct = moving d cells (is_itself d (made d)) refl distinct.0 (all_move cells distinct.1)

  told : (cells : List DataCell) (all : AreAll made cells) (c : DataCell) (among : Bool) → is_cell_among cells c ≡ among
      → (if among then made c else c ∷ []) ≡ made c
  told cells all c true is = refl
  told cells all c false is = sym (all.others c is)

  -- the moves are those of the row
  pub are_moves : (cells : List DataCell) → AreAll made cells → AreMoves made (moves_to made cells)
  are_moves cells all = record {
    told = λ c. says cells c ∙ told cells all c (is_cell_among cells c) refl;
    move = all_move cells all.distinct;
  }
