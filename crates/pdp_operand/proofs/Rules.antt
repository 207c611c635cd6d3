-- What attributes cite: lemmas by their subject, and definitions that are opened together, as an
-- `unfolding` of a name opens all that stands on the name's own line.
use Rattle.pdp_operand.proofs.RegisterIds.{indexed_register, with_indexed_register}
use Rattle.pdp_operand.proofs.RegisterIds.{with_general_register}
use Rattle.pdp_operand.specs.Handbook.Processor.{IsRunning, with_register}

-- for goals on a register that is read or written by its number
pub ruleset registers = (indexed_register, with_indexed_register, with_general_register)

-- opens what a write to a register leaves, and whether the processor runs
unfoldable pub writes : Type 0
unfolding with_register IsRunning
writes = Unit {0}
