-- The trap of a turn: DEC PDP-11/40 Processor Handbook (1972), Processor traps and Stack limit
-- violations. That a turn is one act, and so has at most one trap, is [P].
use Rattle.std.specs.Prelude.{ℕ, List, Option, None, Some, option_map}
use Rattle.pdp_unibus.specs.declared.event.Event.{Event}
use Rattle.pdp_operand.specs.Phases.Phase.{State, inner_of}
use Rattle.pdp_operand.specs.Phases.World.{World}
use Rattle.pdp_instruction.specs.Handbook.Instruction.{instruction_trap}
use Rattle.pdp_instruction.specs.Handbook.TrapSequence.{trap_vector}
use Rattle.pdp_cpu.specs.Handbook.Due.{due_of}
use Rattle.pdp_cpu.specs.Handbook.Turn.{at_turn}
use Rattle.pdp_cpu.specs.declared.due.Due.{Due}
use Rattle.pdp_cpu.specs.declared.due.Due.TheVariants as due

-- the vector (octal, bytes) of the trap that what is due in this state comes to: that of the
-- instruction's own trap, also if its sequence can't go on and becomes the red one; that of the
-- trace trap or of the stack trap. An interrupt is no trap.
abbrev pub trap_of_due : Due → State → Option ℕ
trap_of_due due.Instruction s = option_map trap_vector (instruction_trap s)
trap_of_due due.TraceTrap s = Some 0o14
trap_of_due due.StackTrap s = Some 0o4
trap_of_due (due.Interrupt source) s = None
trap_of_due due.Nothing s = None

-- the vector of the trap of turn t, if it has one
unfoldable pub turn_trap : ℕ → List Event → World → Option ℕ
turn_trap t events w = trap_of_due (due_of (inner_of (at_turn t events w))) (at_turn t events w)
