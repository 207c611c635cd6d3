use Rattle.pdp_alu.proofs.BitLaws.{logic_tells}
use Rattle.pdp_alu.proofs.laws.logic_goes_bit_by_bit.Goals as goal

-- src/laws.rt
pub returns-clause-codes : goal.returns-clause-codes
returns-clause-codes c = logic_tells
