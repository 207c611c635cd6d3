-- What some turns moved, as lines: which cells each turn made of which [P].
use Rattle.std.specs.Prelude.{ℕ, ◌==◌, ◌++◌, Bool, true, false, List, codes, decimal}
use Rattle.std.specs.Prelude.{if◌then◌else◌}
use Rattle.pdp_word.specs.Number.{octal_digits}
use Rattle.pdp_rk11.specs.declared.disk_moves.DiskMoves.{DiskMoves}
use Rattle.pdp_moves.specs.declared.cell_name.BufferName.{BufferName}
use Rattle.pdp_moves.specs.declared.cell_name.BufferName.TheVariants as buffer
use Rattle.pdp_moves.specs.declared.cell_name.CellName.{CellName}
use Rattle.pdp_moves.specs.declared.cell_name.CellName.TheVariants as name
use Rattle.pdp_moves.specs.declared.cell_name.CodeName.{CodeName}
use Rattle.pdp_moves.specs.declared.cell_name.CodeName.TheVariants as code
use Rattle.pdp_moves.specs.declared.cell_name.HalfName.{HalfName}
use Rattle.pdp_moves.specs.declared.cell_name.HalfName.TheVariants as half
use Rattle.pdp_turn_moves.specs.declared.act_move.ActMove.{ActMove}
use Rattle.pdp_turn_moves.specs.declared.act_move.ActMove.TheVariants as act
use Rattle.pdp_turn_moves.specs.declared.beginning_moves.TapeRead.{TapeRead}
use Rattle.pdp_replay.specs.declared.ask.moves.MoveDetail.{MoveDetail}
use Rattle.pdp_replay.specs.declared.ask.moves.MoveDetail.TheVariants as moved
use Rattle.pdp_session.specs.Reply.{address_text, list_text}
use Rattle.pdp_session.specs.Transfers.{function_name}

-- a half of a word, after the word: bits 7-0 or bits 15-8
abbrev pub half_text : HalfName → List ℕ
half_text half.Low = codes ".0"
half_text half.High = codes ".1"

-- a condition code by its letter
abbrev pub code_name : CodeName → List ℕ
code_name code.Negative = codes "N"
code_name code.Zero = codes "Z"
code_name code.Overflow = codes "V"
code_name code.Carry = codes "C"

-- what a device holds, by the name of its register; the switches by that of the event that sets
-- them
abbrev pub buffer_name : BufferName → List ℕ
buffer_name buffer.Keyboard = codes "TKB"
buffer_name buffer.Printer = codes "TPB"
buffer_name buffer.Reader = codes "PRB"
buffer_name buffer.Punch = codes "PPB"
buffer_name buffer.Switches = codes "switches"

-- a register by its place among the words: 0 to 5 are R0 to R5, 6 and 7 the stack pointers of
-- kernel and user mode
abbrev pub name_of_place : ℕ → List ℕ
name_of_place place =
    if place == 6 then codes "KSP"
    else if place == 7 then codes "USP"
    else codes "R" ++ decimal place

-- a word of a drive: the drive, and the number of the word
abbrev pub drive_word_text : ℕ → ℕ → List ℕ
drive_word_text drive word = codes "disk " ++ decimal drive ++ codes " " ++ octal_digits 7 word

-- a cell by its name. The lines of an act show cells of core, registers, codes and buffers; the
-- last six, which exist within an act alone, complete the definition.
unfoldable pub cell_text : CellName → List ℕ
cell_text (name.CoreByte word h) = codes "core " ++ address_text word ++ half_text h
cell_text (name.DriveByte drive word h) = drive_word_text drive word ++ half_text h
cell_text (name.RegisterByte place h) = name_of_place place ++ half_text h
cell_text (name.CodeNow c) = codes "code " ++ code_name c
cell_text (name.Buffer b) = buffer_name b
cell_text (name.TapeByte number) = codes "tape " ++ decimal number
cell_text (name.ValueByte h) = codes "value" ++ half_text h
cell_text (name.SourceByte h) = codes "source" ++ half_text h
cell_text (name.ResultByte h) = codes "result" ++ half_text h
cell_text (name.StatusByte h) = codes "status" ++ half_text h
cell_text (name.CodeDue c) = codes "due " ++ code_name c
cell_text (name.CodeSaved c) = codes "saved " ++ code_name c

-- a cell after an act, and a cell before it that it is made of
unfoldable pub act_line : ActMove → List ℕ
act_line (act.Of cell source) = cell_text cell ++ codes " of " ++ cell_text source ++ codes "\n"
act_line (act.OfNothing cell) = cell_text cell ++ codes " of nothing\n"

-- past the end of the tape there is no byte: PRB is then made of itself too
abbrev pub tape_end_text : Bool → List ℕ
tape_end_text true = codes " PRB\n"
tape_end_text false = codes "\n"

unfoldable pub reader_line : TapeRead → List ℕ
reader_line reader = codes "PRB of tape " ++ decimal reader.number ++ tape_end_text reader.at_end

-- RKCS, bit 11: the bus address isn't incremented, so all words go to, or come from, one word
abbrev pub in_place_text : Bool → List ℕ
in_place_text true = codes " in place\n"
in_place_text false = codes "\n"

-- what the disk moved: the function, the drive, the number on it of the first word, the address of
-- the first word in core, and how many words. A write also fills the rest of its last sector with
-- zeros [6.93], which no line tells.
unfoldable pub disk_line : DiskMoves → List ℕ
disk_line moves =
    codes "disk " ++ function_name moves.function ++ codes " " ++ decimal moves.drive
    ++ codes " " ++ octal_digits 7 moves.transfer.disk_start ++ codes " "
    ++ address_text moves.transfer.core_start ++ codes " " ++ decimal moves.transfer.count
    ++ in_place_text moves.transfer.no_increment

-- a text, a number in decimal, and the end of the line
abbrev pub numbered_line : List ℕ → ℕ → List ℕ
numbered_line text number = text ++ decimal number ++ codes "\n"

-- one line for each move
abbrev pub move_line : MoveDetail → List ℕ
move_line (moved.Turn turn) = numbered_line (codes "turn ") turn
move_line (moved.Key number) = numbered_line (codes "TKB of event ") number
move_line (moved.Switches number) = numbered_line (codes "switches of event ") number
move_line (moved.Reader reader) = reader_line reader
move_line (moved.Disk moves) = disk_line moves
move_line (moved.Act made) = act_line made

-- how many lines there are, and the lines
abbrev pub moves_text : List MoveDetail → List ℕ
moves_text details = list_text (codes "moves") move_line details
