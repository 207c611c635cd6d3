-- A cell to which no move is listed stays.
use Rattle.std.proofs.Common.{◌≡◌, ℕ, zero, suc, ◌*◌, ◌<◌, ◌++◌, Bool, true, false, List, [], ◌∷◌, arith, refl, sym, ap, subst, true≢false, if◌then◌else◌, ◌∙◌, ◌+◌}
use Rattle.std.proofs.lemmas.List.{take_all}
use Rattle.pdp_word.specs.Physical.{first_register}
use Rattle.pdp_store.specs.declared.cycle_log.BusCycle.{BusCycle}
use Rattle.pdp_unibus.specs.declared.event.Event.{Event}
use Rattle.pdp_operand.specs.Phases.World.{World}
use Rattle.pdp_made.specs.Cells.{Half, Low, High, ConditionCode, Negative, Zero, Overflow, Carry, DeviceBuffer, Keyboard, Printer, Reader, Punch, Switches, DataCell, CoreByte, DriveByte, RegisterByte, CodeNow, Buffer, TapeByte, ValueByte, SourceByte, ResultByte, StatusByte, CodeDue, CodeSaved}
use Rattle.pdp_moves.specs.Moves.{is_cell, is_cell_among, is_itself}
use Rattle.pdp_moves.specs.declared.cell_name.CellName.{CellName}
use Rattle.pdp_moves.proofs.Same.{cell_is, same_cell}
use Rattle.pdp_turn_moves.specs.ActMoves.{cells_outside_core, cells_written, made_in_act, moves_from, moves_of_cell, moves_of_cells, name_of, with_cells, moves_of_act}
use Rattle.pdp_turn_moves.specs.declared.act_move.ActMove.{ActMove}
use Rattle.pdp_replay.specs.Ask.Accesses.{cycles_in, log_of_all, most_cycles}
use Rattle.pdp_replay.specs.Past.{Past}
use Rattle.pdp_replay.specs.Run.States.{state_at}
use Rattle.pdp_made_past.specs.KeptCells.{AllCyclesAreListed, IsHeld, NoneMoves, UnlistedCellsStay, made_by_act}
use Rattle.pdp_made_past.specs.PastRows.{script_events}
use Rattle.pdp_made_past.proofs.KeptCells.{all_told, cycles_are, cycles_of, drives_stay, few_cycles, tape_stays, turn_told, unwritten_stays}

-- no move of two lists
none_split : (name : CellName) (xs ys : List ActMove) → NoneMoves name (xs ++ ys) → NoneMoves name xs × NoneMoves name ys
none_split name [] ys none = (tt, none)
none_split name (x ∷ xs) ys none = let rest = none_split name xs ys none.1 in ((none.0, rest.0), rest.1)

-- the list has no move to a cell only if it is made of itself
alone : (c : DataCell) (cells : List DataCell) → is_itself c cells ≡ true → cells ≡ c ∷ []
alone c [] is = absurd (true≢false (sym is))
alone c (d ∷ []) is = ap (λ e. e ∷ []) (sym (cell_is c d is))
alone c (d ∷ e ∷ cells) is = absurd (true≢false (sym is))

told_from : (c : DataCell) (cells : List DataCell) → NoneMoves (name_of c) (moves_from c cells) → ⊥
told_from c [] none = none.0 refl
told_from c (d ∷ cells) none = none.0 refl

unmoved_if : (c : DataCell) (cells : List DataCell) (itself : Bool) → is_itself c cells ≡ itself → NoneMoves (name_of c) (if itself then [] else moves_from c cells) → cells ≡ c ∷ []
unmoved_if c cells true is none = alone c cells is
unmoved_if c cells false is none = absurd (told_from c cells none)

unmoved : (c : DataCell) (cells : List DataCell) → NoneMoves (name_of c) (moves_of_cell c cells) → cells ≡ c ∷ []
unmoved c cells none = unmoved_if c cells (is_itself c cells) refl none

-- of a cell whose moves are told
module _ (made : DataCell → List DataCell) (c : DataCell) where
  told_if : (d : DataCell) (cells : List DataCell) (same : Bool) → is_cell c d ≡ same → (if same then true else is_cell_among cells c) ≡ true
      → NoneMoves (name_of c) (moves_of_cell d (with_cells [] (made d))) → (is_cell_among cells c ≡ true → with_cells [] (made c) ≡ c ∷ []) → with_cells [] (made c) ≡ c ∷ []
  told_if d cells true is among none rest =
      unmoved c (with_cells [] (made c)) (subst (λ e. NoneMoves (name_of c) (moves_of_cell e (with_cells [] (made e)))) (sym (cell_is c d is)) none)
  told_if d cells false is among none rest = rest among

  told : (cells : List DataCell) → is_cell_among cells c ≡ true → NoneMoves (name_of c) (moves_of_cells made cells) → with_cells [] (made c) ≡ c ∷ []
  told [] among none = absurd (true≢false (sym among))
  told (d ∷ cells) among none =
      let both = none_split (name_of c) (moves_of_cell d (with_cells [] (made d))) (moves_of_cells made cells) none in
      told_if d cells (is_cell c d) refl among both.0 (λ rest. told cells rest both.1)

-- a cell of two lists, each once
module _ (c : DataCell) where
  left_if : (xs ys : List DataCell) (same : Bool) → (if same then true else is_cell_among xs c) ≡ true → (is_cell_among xs c ≡ true → is_cell_among (xs ++ ys) c ≡ true)
      → (if same then true else is_cell_among (xs ++ ys) c) ≡ true
  left_if xs ys true among rest = refl
  left_if xs ys false among rest = rest among

  among_left : (xs ys : List DataCell) → is_cell_among xs c ≡ true → is_cell_among (xs ++ ys) c ≡ true
  among_left [] ys among = absurd (true≢false (sym among))
  among_left (x ∷ xs) ys among = left_if xs ys (is_cell c x) among (λ rest. among_left xs ys rest)

  last_if : (xs : List DataCell) (same : Bool) → is_cell_among xs c ≡ true → (if same then true else is_cell_among xs c) ≡ true
  last_if xs true rest = refl
  last_if xs false rest = rest

  among_last : (xs : List DataCell) → is_cell_among (xs ++ c ∷ []) c ≡ true
  among_last [] = rw (same_cell c) refl
  among_last (x ∷ xs) = last_if (xs ++ c ∷ []) (is_cell c x) (among_last xs)

  kept_if : (x : DataCell) (cells : List DataCell) (there : Bool) → is_cell_among cells c ≡ true → is_cell_among (if there then cells else cells ++ x ∷ []) c ≡ true
  kept_if x cells true among = among
  kept_if x cells false among = among_left cells (x ∷ []) among

  once_kept : (cells more : List DataCell) → is_cell_among cells c ≡ true → is_cell_among (with_cells cells more) c ≡ true
  once_kept cells [] among = among
  once_kept cells (x ∷ more) among = once_kept (if is_cell_among cells x then cells else cells ++ x ∷ []) more (kept_if x cells (is_cell_among cells x) among)

  put_if : (cells : List DataCell) (there : Bool) → is_cell_among cells c ≡ there → is_cell_among (if there then cells else cells ++ c ∷ []) c ≡ true
  put_if cells true is = is
  put_if cells false is = among_last cells

  -- the cells, and then one more unless it is among them
  abbrev and_cell : List DataCell → DataCell → List DataCell
  and_cell cells x = if is_cell_among cells x then cells else cells ++ x ∷ []

  once_if : (cells more : List DataCell) (x : DataCell) (same : Bool) → is_cell c x ≡ same → (if same then true else is_cell_among more c) ≡ true
      → (is_cell_among more c ≡ true → is_cell_among (with_cells (and_cell cells x) more) c ≡ true) → is_cell_among (with_cells (and_cell cells x) more) c ≡ true
  once_if cells more x true is among rest =
      once_kept (and_cell cells x) more (subst (λ e. is_cell_among (and_cell cells e) c ≡ true) (cell_is c x is) (put_if cells (is_cell_among cells c) refl))
  once_if cells more x false is among rest = rest among

  once : (cells more : List DataCell) → is_cell_among more c ≡ true → is_cell_among (with_cells cells more) c ≡ true
  once cells [] among = absurd (true≢false (sym among))
  once cells (x ∷ more) among = once_if cells more x (is_cell c x) refl among (λ rest. once (and_cell cells x) more rest)

-- The registers, codes and buffers are told in every act
register_among : (n : ℕ) (half : Half) → n < 8 → is_cell_among cells_outside_core (RegisterByte n half) ≡ true
register_among zero Low below = refl
register_among zero High below = refl
register_among (suc zero) Low below = refl
register_among (suc zero) High below = refl
register_among (suc (suc zero)) Low below = refl
register_among (suc (suc zero)) High below = refl
register_among (suc (suc (suc zero))) Low below = refl
register_among (suc (suc (suc zero))) High below = refl
register_among (suc (suc (suc (suc zero)))) Low below = refl
register_among (suc (suc (suc (suc zero)))) High below = refl
register_among (suc (suc (suc (suc (suc zero))))) Low below = refl
register_among (suc (suc (suc (suc (suc zero))))) High below = refl
register_among (suc (suc (suc (suc (suc (suc zero)))))) Low below = refl
register_among (suc (suc (suc (suc (suc (suc zero)))))) High below = refl
register_among (suc (suc (suc (suc (suc (suc (suc zero))))))) Low below = refl
register_among (suc (suc (suc (suc (suc (suc (suc zero))))))) High below = refl
register_among (suc (suc (suc (suc (suc (suc (suc (suc n)))))))) half below = absurd (omega (arith, below))

code_among : (code : ConditionCode) → is_cell_among cells_outside_core (CodeNow code) ≡ true
code_among Negative = refl
code_among Zero = refl
code_among Overflow = refl
code_among Carry = refl

buffer_among : (buffer : DeviceBuffer) → is_cell_among cells_outside_core (Buffer buffer) ≡ true
buffer_among Keyboard = refl
buffer_among Printer = refl
buffer_among Reader = refl
buffer_among Punch = refl
buffer_among Switches = refl

-- made of itself alone
same_once : (c : DataCell) (cells : List DataCell) → cells ≡ c ∷ [] → with_cells [] cells ≡ c ∷ []
same_once c cells is = ap (with_cells []) is

module _ (t : ℕ) (events : List Event) (w : World) where
  abbrev made : DataCell → List DataCell
  made = made_in_act t events w

  abbrev cycles : List BusCycle
  cycles = cycles_of t events w

  abbrev words_told : List ActMove
  words_told = moves_of_cells made (with_cells [] (cells_written cycles))

  word_stays : (k : ℕ) (half : Half) → k * 2 < first_register → NoneMoves (name_of (CoreByte k half)) words_told
      → (written : Bool) → is_cell_among (cells_written cycles) (CoreByte k half) ≡ written → with_cells [] (made (CoreByte k half)) ≡ CoreByte k half ∷ []
  word_stays k half below none true is =
      told made (CoreByte k half) (with_cells [] (cells_written cycles)) (once (CoreByte k half) [] (cells_written cycles) is) none
  word_stays k half below none false is = same_once (CoreByte k half) (made (CoreByte k half)) (unwritten_stays t events w k half below is)

  held_stays : (c : DataCell) → IsHeld c → NoneMoves (name_of c) words_told → NoneMoves (name_of c) (moves_of_cells made cells_outside_core) → with_cells [] (made c) ≡ c ∷ []
  held_stays (CoreByte k half) below words others = word_stays k half below words (is_cell_among (cells_written cycles) (CoreByte k half)) refl
  held_stays (DriveByte drive k half) held words others = same_once (DriveByte drive k half) (made (DriveByte drive k half)) (drives_stay t events w drive k half)
  held_stays (RegisterByte n half) below words others = told made (RegisterByte n half) cells_outside_core (register_among n half below) others
  held_stays (CodeNow code) held words others = told made (CodeNow code) cells_outside_core (code_among code) others
  held_stays (Buffer buffer) held words others = told made (Buffer buffer) cells_outside_core (buffer_among buffer) others
  held_stays (TapeByte k) held words others = same_once (TapeByte k) (made (TapeByte k)) (tape_stays t events w k)
  held_stays (ValueByte half) held words others = absurd held
  held_stays (SourceByte half) held words others = absurd held
  held_stays (ResultByte half) held words others = absurd held
  held_stays (StatusByte half) held words others = absurd held
  held_stays (CodeDue code) held words others = absurd held
  held_stays (CodeSaved code) held words others = absurd held

  listed_stay : (c : DataCell) → IsHeld c → NoneMoves (name_of c) (moves_of_act made cycles) → with_cells [] (made c) ≡ c ∷ []
  listed_stay c held none =
      let both = none_split (name_of c) words_told (moves_of_cells made cells_outside_core) none in
      held_stays c held both.0 both.1

-- Of a turn of a run
cycles_are_all : (p : Past) (t : ℕ) → cycles_in p t ≡ cycles_of t (script_events p t) (state_at p t)
cycles_are_all p t =
    let few = few_cycles t (script_events p t) (state_at p t) in
    ap (λ (v : World). v.bus.log.told) (turn_told t (script_events p t) (state_at p t) log_of_all)
    ∙ all_told (most_cycles + 1) (cycles_of t (script_events p t) (state_at p t)) [] (omega arith)
    ∙ take_all (most_cycles + 1) (cycles_of t (script_events p t) (state_at p t)) (omega (arith, few))

pub all_listed : AllCyclesAreListed
all_listed p t logged = cycles_are_all p t ∙ sym (cycles_are t (script_events p t) (state_at p t) logged)

pub unlisted_stay : UnlistedCellsStay
unlisted_stay p t c held none =
    listed_stay t (script_events p t) (state_at p t) c held
    (subst (λ cycles. NoneMoves (name_of c) (moves_of_act (made_by_act p t) cycles)) (cycles_are_all p t) none)
