-- What is due in a turn, by its name in the code. No rule of the handbook is here.
use Rattle.pdp_cpu.specs.declared.due.Due.{Due}
use Rattle.pdp_cpu.specs.declared.due.Due.TheVariants as due
use Rattle.pdp_turn_moves.specs.declared.due_act.DueAct.{DueAct}
use Rattle.pdp_turn_moves.specs.declared.due_act.DueAct.TheVariants as named

abbrev pub named_due : DueAct → Due
named_due named.Instruction = due.Instruction
named_due named.TraceTrap = due.TraceTrap
named_due named.StackTrap = due.StackTrap
named_due (named.Interrupt source) = due.Interrupt source
named_due named.Nothing = due.Nothing
