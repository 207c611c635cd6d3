-- What some turns made of what [P].
use Rattle.std.specs.Prelude.{ℕ, zero, suc, ◌≡◌, ◌+◌, ◌-◌, ◌++◌, List, [], ◌∷◌}
use Rattle.std.specs.Prelude.{map, option_map, option_to_list}
use Rattle.pdp_cpu.specs.Handbook.MachineState.{MachineState}
use Rattle.pdp_made.specs.Cells.{DataCell}
use Rattle.pdp_moves.specs.CourseMoves.{sources_of_act}
use Rattle.pdp_script.specs.Entries.{events_at}
use Rattle.pdp_script.specs.Script.{ScriptData}
use Rattle.pdp_turn_moves.specs.ActMoves.{made_in_act, moves_of_act}
use Rattle.pdp_turn_moves.specs.Beginnings.{beginning_told}
use Rattle.pdp_turn_moves.specs.declared.act_move.ActMove.{ActMove}
use Rattle.pdp_turn_moves.specs.declared.beginning_moves.BeginningMoves.{BeginningMoves}
use Rattle.pdp_turn_moves.specs.declared.turn_moves.TurnMoves.{TurnMoves}
use Rattle.pdp_replay.specs.Past.{Past}
use Rattle.pdp_replay.specs.Run.States.{state_at}
use Rattle.pdp_replay.specs.Ask.Accesses.{cycles_in}
use Rattle.pdp_replay.specs.Ask.Reads.{IsLoggedState}
use Rattle.pdp_replay.specs.declared.ask.moves.MoveDetail.{MoveDetail}
use Rattle.pdp_replay.specs.declared.ask.moves.MoveDetail.TheVariants as moved

-- what the beginning of a turn moves: by a key, by the switches, by the reader, and by the disk
abbrev pub beginning_details : BeginningMoves → List MoveDetail
beginning_details begun =
    option_to_list (option_map moved.Key begun.key)
    ++ option_to_list (option_map moved.Switches begun.switches)
    ++ option_to_list (option_map moved.Reader begun.reader)
    ++ option_to_list (option_map moved.Disk begun.disk)

-- turn t: what its beginning moved, and what its act did
abbrev pub move_details : ℕ → BeginningMoves → List ActMove → List MoveDetail
move_details t begun acted = moved.Turn t ∷ beginning_details begun ++ map moved.Act acted

-- what turn t of the run of this past made of what: its beginning, and then its act by the rows
abbrev pub moves_in : Past → ℕ → List MoveDetail
moves_in p t = let events = events_at p.script.entries t in
    move_details t (beginning_told t events (state_at p t).bus)
    (moves_of_act (made_in_act t events (state_at p t)) (cycles_in p t))

-- those of n turns from this one on, in their order
unfoldable pub moves_in_turns : Past → ℕ → ℕ → List MoveDetail
moves_in_turns p first zero = []
moves_in_turns p first (suc n) = moves_in_turns p first n ++ moves_in p (first + n)

-- these are the moves of the turns from a machine's on and before another
abbrev pub AreMovesFrom : ℕ → ScriptData → MachineState → List MoveDetail → Type 0
AreMovesFrom to script m details = (p : Past) → p.script ≡ script → IsLoggedState p m
    → details ≡ moves_in_turns p m.turn (to - m.turn)

-- What was noted of turn t of the run of this past.
pub record AreNotedIn (p : Past) (t : ℕ) (noted : TurnMoves) : Type 0 where
  pub beginning : noted.beginning
      ≡ beginning_told t (events_at p.script.entries t) (state_at p t).bus
  pub act : (c : DataCell) → sources_of_act noted.act.noted c
      ≡ made_in_act t (events_at p.script.entries t) (state_at p t) c

-- this was noted of the turn that a machine ran
abbrev pub NotesTurn : ScriptData → MachineState → TurnMoves → Type 0
NotesTurn script before noted = (p : Past) → p.script ≡ script → IsLoggedState p before
    → AreNotedIn p before.turn noted

-- what was noted of a turn, with the cycles of its log, as details
abbrev pub details_noted : ℕ → TurnMoves → MachineState → List MoveDetail
details_noted t noted after = move_details t noted.beginning
    (moves_of_act (sources_of_act noted.act.noted) after.world.bus.log.told)
