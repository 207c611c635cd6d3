use Rattle.pdp_alu.proofs.ShiftCodes.{right_never_overflows}
use Rattle.pdp_alu.proofs.extended_laws.shifts_to_the_right_divide.Goals as goal

-- src/extended_laws.rt
pub returns-clause-overflow : goal.returns-clause-overflow
returns-clause-overflow c = right_never_overflows
