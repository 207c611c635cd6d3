-- What was noted of an act, told one after the other.
use Rattle.std.proofs.Common.{◌≡◌, ◌∙◌, ◌<◌, ◌≤◌, ◌+◌, ℕ, zero, suc, true, false, List, [], ◌∷◌, ◌++◌, length, map, take, drop, set, get_or, flat_map, if◌then◌else◌, refl, ap, sym, append-nil, arith}
use Rattle.std.proofs.lemmas.List.{drop_all, take_more}
use Rattle.std.proofs.lemmas.Grind.{flat_map-append}
use Rattle.std.proofs.lemmas.List.{at_drop_more, at_drop_all, get_or-drop, take_more_set, map-append}
use Rattle.pdp_made.specs.Cells.{DataCell}
use Rattle.pdp_made.specs.CourseRows.{of_saved_codes}
use Rattle.pdp_moves.specs.CellNames.{named_cell, named_cells, named_code, named_half, named_buffer, named_moves}
use Rattle.pdp_moves.specs.CourseMoves.{saved_if}
use Rattle.pdp_moves.specs.Moves.{is_cell, sources_in}
use Rattle.pdp_moves.specs.declared.cell_move.CellMove.{CellMove}
use Rattle.pdp_moves.specs.declared.cell_name.BufferName.{BufferName}
use Rattle.pdp_moves.specs.declared.cell_name.BufferName.TheVariants as buffer
use Rattle.pdp_moves.specs.declared.cell_name.CellName.{CellName}
use Rattle.pdp_moves.specs.declared.cell_name.CellName.TheVariants as name
use Rattle.pdp_moves.specs.declared.cell_name.CodeName.{CodeName}
use Rattle.pdp_moves.specs.declared.cell_name.CodeName.TheVariants as code
use Rattle.pdp_moves.specs.declared.cell_name.HalfName.{HalfName}
use Rattle.pdp_moves.specs.declared.cell_name.HalfName.TheVariants as half
use Rattle.pdp_turn_moves.specs.ActMoves.{halves_of_register, moves_from, name_of, name_of_buffer, name_of_code, name_of_half}
use Rattle.pdp_turn_moves.specs.declared.act_move.ActMove.TheVariants as act

-- a list that is told element by element, when all are told
pub told_all : {X A : Type 0} (F : List X → List A) → F [] ≡ [] → (xs : List X) (i : ℕ) → length xs ≤ i → (out whole : List A)
    → out ++ F (drop i xs) ≡ whole → out ≡ whole
told_all F none xs i past out whole so =
    sym (append-nil out) ∙ ap (λ l. out ++ l) (sym none) ∙ ap (λ l. out ++ F l) (sym (drop_all i xs past)) ∙ so

-- the halves of the registers below a place
abbrev pub registers_below : ℕ → List DataCell
registers_below zero = []
registers_below (suc n) = registers_below n ++ halves_of_register n

-- the moves of a step, of which one is to the cell, or none
pub sources_here : (moves : List CellMove) (i : ℕ) (d : CellMove) (c : DataCell) → i < length moves
    → is_cell c (named_cell (get_or moves i d).cell) ≡ true
    → sources_in (named_moves (drop i moves)) c ≡ named_cells (get_or moves i d).sources.items
sources_here moves i d c below is =
    at_drop_more (λ rest. sources_in (named_moves rest) c) moves i d below
    ∙ ap (λ here. if here then named_cells (get_or moves i d).sources.items else sources_in (named_moves (drop (i + 1) moves)) c) is

pub sources_none : (moves : List CellMove) (i : ℕ) (c : DataCell) → length moves ≤ i → sources_in (named_moves (drop i moves)) c ≡ c ∷ []
sources_none moves i c past = at_drop_all (λ rest. sources_in (named_moves rest) c) moves i past

pub named_append : (some more : List CellName) → named_cells (some ++ more) ≡ named_cells some ++ named_cells more
named_append some more = map-append named_cell some more

-- no code was saved
pub each_itself : (cells : List DataCell) → flat_map (saved_if false) cells ≡ cells
each_itself [] = refl
each_itself (c ∷ cells) = ap (λ rest. c ∷ rest) (each_itself cells)

-- the cell after as many as are left alike
pub same_there : (old now : List CellName) (i : ℕ) (d : CellName) → drop i now ≡ drop i old → get_or now i d ≡ get_or old i d
same_there old now i d rest =
    let none : i + 0 ≡ i = omega arith in
    ap (λ k. get_or now k d) (sym none) ∙ sym (get_or-drop i now 0 d) ∙ ap (λ l. get_or l 0 d) rest ∙ get_or-drop i old 0 d ∙ ap (λ k. get_or old k d) none

-- the codes of one more cell
pub saved_more : (old now : List CellName) (i : ℕ) (d new : CellName) → i < length old → length now ≡ length old
    → of_saved_codes (named_cell (get_or old i d)) ≡ named_cell new ∷ []
    → named_cells (take i now) ≡ flat_map of_saved_codes (named_cells (take i old))
    → named_cells (take (i + 1) (set now i new)) ≡ flat_map of_saved_codes (named_cells (take (i + 1) old))
saved_more old now i d new below count is so =
    ap named_cells (take_more_set now i new (omega arith))
    ∙ named_append (take i now) (new ∷ [])
    ∙ ap (λ l. l ++ named_cell new ∷ []) so
    ∙ ap (λ l. flat_map of_saved_codes (named_cells (take i old)) ++ l) (sym is)
    ∙ ap (λ l. flat_map of_saved_codes (named_cells (take i old)) ++ l) (sym (append-nil (of_saved_codes (named_cell (get_or old i d)))))
    ∙ sym (flat_map-append of_saved_codes (named_cells (take i old)) (named_cell (get_or old i d) ∷ []))
    ∙ ap (flat_map of_saved_codes) (sym (named_append (take i old) (get_or old i d ∷ [])))
    ∙ ap (λ l. flat_map of_saved_codes (named_cells l)) (sym (take_more old i d below))

-- the name of a cell that has this name
half_named : (h : HalfName) → name_of_half (named_half h) ≡ h
half_named half.Low = refl
half_named half.High = refl

code_named : (c : CodeName) → name_of_code (named_code c) ≡ c
code_named code.Negative = refl
code_named code.Zero = refl
code_named code.Overflow = refl
code_named code.Carry = refl

buffer_named : (b : BufferName) → name_of_buffer (named_buffer b) ≡ b
buffer_named buffer.Keyboard = refl
buffer_named buffer.Printer = refl
buffer_named buffer.Reader = refl
buffer_named buffer.Punch = refl
buffer_named buffer.Switches = refl

pub name_named : (c : CellName) → name_of (named_cell c) ≡ c
name_named (name.CoreByte k h) = ap (λ g. name.CoreByte k g) (half_named h)
name_named (name.DriveByte d k h) = ap (λ g. name.DriveByte d k g) (half_named h)
name_named (name.RegisterByte n h) = ap (λ g. name.RegisterByte n g) (half_named h)
name_named (name.CodeNow c) = ap (λ d. name.CodeNow d) (code_named c)
name_named (name.Buffer b) = ap (λ d. name.Buffer d) (buffer_named b)
name_named (name.TapeByte k) = refl
name_named (name.ValueByte h) = ap (λ g. name.ValueByte g) (half_named h)
name_named (name.SourceByte h) = ap (λ g. name.SourceByte g) (half_named h)
name_named (name.ResultByte h) = ap (λ g. name.ResultByte g) (half_named h)
name_named (name.StatusByte h) = ap (λ g. name.StatusByte g) (half_named h)
name_named (name.CodeDue c) = ap (λ d. name.CodeDue d) (code_named c)
name_named (name.CodeSaved c) = ap (λ d. name.CodeSaved d) (code_named c)

-- the moves to a cell from these
moves_each : (c : CellName) (cells : List CellName) → map (λ s. act.Of c s) cells ≡ map (λ e. act.Of (name_of (named_cell c)) (name_of e)) (named_cells cells)
moves_each c [] = refl
moves_each c (d ∷ cells) =
    ap (λ a. act.Of a d ∷ map (λ s. act.Of c s) cells) (sym (name_named c))
    ∙ ap (λ b. act.Of (name_of (named_cell c)) b ∷ map (λ s. act.Of c s) cells) (sym (name_named d))
    ∙ ap (λ rest. act.Of (name_of (named_cell c)) (name_of (named_cell d)) ∷ rest) (moves_each c cells)

pub moves_told : (c : CellName) (cells : List CellName) → 0 < length cells → map (λ s. act.Of c s) cells ≡ moves_from (named_cell c) (named_cells cells)
moves_told c [] some = absurd (omega arith)
moves_told c (d ∷ cells) some = moves_each c (d ∷ cells)
