-- What the act of a turn leaves: words of core that no cycle of it wrote, drives and the tape; and
-- each cell to which no move is listed. No rule of the handbook is here.
use Rattle.std.specs.Prelude.{ℕ, ◌≡◌, ◌≢◌, ◌*◌, ◌<◌, false, List, [], ◌∷◌}
use Rattle.pdp_word.specs.Physical.{first_register}
use Rattle.pdp_unibus.specs.declared.event.Event.{Event}
use Rattle.pdp_operand.specs.Phases.World.{World}
use Rattle.pdp_made.specs.Cells.{Half, DataCell, CoreByte, DriveByte, RegisterByte, CodeNow}
use Rattle.pdp_made.specs.Cells.{Buffer, TapeByte}
use Rattle.pdp_moves.specs.Moves.{is_cell_among}
use Rattle.pdp_moves.specs.declared.cell_name.CellName.{CellName}
use Rattle.pdp_turn_moves.specs.ActMoves.{cells_written, made_in_act, moves_of_act, name_of}
use Rattle.pdp_turn_moves.specs.ActMoves.{with_cells}
use Rattle.pdp_turn_moves.specs.declared.act_move.ActMove.{ActMove}
use Rattle.pdp_turn_moves.specs.declared.act_move.ActMove.TheVariants as act
use Rattle.pdp_replay.specs.Ask.Accesses.{cycles_in}
use Rattle.pdp_replay.specs.Ask.LoggedCycles.{IsTurnLogged}
use Rattle.pdp_replay.specs.Past.{Past}
use Rattle.pdp_replay.specs.Run.States.{state_at}
use Rattle.pdp_made_past.specs.PastRows.{script_events}

-- The act of a turn makes a word of core of itself alone, if no cycle of the turn wrote it. Words
-- of core are below the registers of devices.
abbrev pub UnwrittenWordsStay : Type 0
UnwrittenWordsStay = (t : ℕ) (events : List Event) (w : World) (logged : IsTurnLogged t events w)
    (k : ℕ) (half : Half) → k * 2 < first_register
    → is_cell_among (cells_written logged.cycles) (CoreByte k half) ≡ false
    → made_in_act t events w (CoreByte k half) ≡ CoreByte k half ∷ []

-- and each word of a drive, and each byte of the tape
abbrev pub DriveBytesStay : Type 0
DriveBytesStay = (t : ℕ) (events : List Event) (w : World) (drive k : ℕ) (half : Half)
    → made_in_act t events w (DriveByte drive k half) ≡ DriveByte drive k half ∷ []

abbrev pub TapeBytesStay : Type 0
TapeBytesStay = (t : ℕ) (events : List Event) (w : World) (k : ℕ)
    → made_in_act t events w (TapeByte k) ≡ TapeByte k ∷ []

-- The cycles that are listed of a turn of a run, at most 257, are all of its cycles.
abbrev pub AllCyclesAreListed : Type 0
AllCyclesAreListed = (p : Past) (t : ℕ) (logged : IsTurnLogged t (script_events p t) (state_at p t))
    → cycles_in p t ≡ logged.cycles

-- A cell that the machine holds between two turns: a half of a word of core, which is below the
-- registers of devices, or of one of the eight registers; or any cell of a drive, of the codes, of
-- the buffers and of the tape.
abbrev pub IsHeld : DataCell → Type 0
IsHeld (CoreByte k half) = k * 2 < first_register
IsHeld (DriveByte drive k half) = Unit {0}
IsHeld (RegisterByte n half) = n < 8
IsHeld (CodeNow code) = Unit {0}
IsHeld (Buffer buffer) = Unit {0}
IsHeld (TapeByte k) = Unit {0}
IsHeld c = ⊥

-- the cell that a move is to
abbrev pub moved_cell : ActMove → CellName
moved_cell (act.Of cell from) = cell
moved_cell (act.OfNothing cell) = cell

-- none of these moves is to the cell of this name
abbrev pub NoneMoves : CellName → List ActMove → Type 0
NoneMoves name [] = Unit {0}
NoneMoves name (move ∷ moves) = (moved_cell move ≢ name) × NoneMoves name moves

-- of which cells the act of turn t of the run of this past makes each cell, and its listed moves
abbrev pub made_by_act : Past → ℕ → DataCell → List DataCell
made_by_act p t c = made_in_act t (script_events p t) (state_at p t) c

abbrev pub listed_moves : Past → ℕ → List ActMove
listed_moves p t = moves_of_act (made_by_act p t) (cycles_in p t)

-- The law of lists: if no move to a cell is listed of an act, the act makes the cell of itself
-- alone: of the cells that it is made of, each once, there is no other.
abbrev pub UnlistedCellsStay : Type 0
UnlistedCellsStay = (p : Past) (t : ℕ) (c : DataCell) → IsHeld c
    → NoneMoves (name_of c) (listed_moves p t) → with_cells [] (made_by_act p t c) ≡ c ∷ []
