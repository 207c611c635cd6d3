-- The bytes of a text from one of them on, and the turn in which a byte came out [P].
use Rattle.std.specs.Prelude.{ℕ, ◌+◌, ◌&&◌, Bool, List, length, nat_le, nat_lt}
use Rattle.std.specs.Prelude.{Result, Ok, Err, if◌then◌else◌, take}
use Rattle.pdp_cpu.specs.Handbook.MachineState.{MachineWithTexts}
use Rattle.pdp_cpu.specs.declared.kept_text.KeptByte.{KeptByte}
use Rattle.pdp_unibus.specs.Handbook.LastTurn.{last_turn}
use Rattle.pdp_script.specs.declared.faults.Fault.{Fault}
use Rattle.pdp_script.specs.declared.faults.Fault.TheVariants.{TurnTooLarge}
use Rattle.pdp_replay.specs.Past.{Past}
use Rattle.pdp_replay.specs.Run.States.{punched_at, text_at}
use Rattle.pdp_replay.specs.declared.ask.text_part.TextKind.{TextKind}
use Rattle.pdp_replay.specs.declared.ask.text_part.TextKind.TheVariants.{Printed, Punched}

-- the bytes that came out before turn n: those that were printed on the console, or those that were
-- punched
abbrev pub bytes_at : TextKind → Past → ℕ → List ℕ
bytes_at Printed p n = text_at p n
bytes_at Punched p n = punched_at p n

-- does the byte of this number, counted from 0, come out in turn t? Before the turn no more bytes
-- than its number came out, and after the turn more
abbrev pub comes_out : TextKind → ℕ → Past → ℕ → Bool
comes_out kind number p t = nat_le (length (bytes_at kind p t)) number && nat_lt number (length
    (bytes_at kind p (t + 1)))

-- is the byte of this number out after turn t?
abbrev pub is_out_after : TextKind → ℕ → Past → ℕ → Bool
is_out_after kind number p t = nat_lt number (length (bytes_at kind p (t + 1)))

-- can the bytes that came out before this turn be asked for?
abbrev pub turn_checked : ℕ → Result (Unit {0}) Fault
turn_checked turn = if nat_le turn last_turn then Ok tt else Err TurnTooLarge

-- can a byte be searched for? Each can
abbrev pub byte_checked : Result (Unit {0}) Fault
byte_checked = Ok tt

-- the bytes that came out of a machine since power-up, each with its turn: the first of those that
-- it keeps
abbrev pub shown_of : TextKind → MachineWithTexts → List KeptByte
shown_of Printed m = take (length m.state.text) m.kept_text
shown_of Punched m = take (length m.state.punched) m.kept_punched
