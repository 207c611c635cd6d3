use Rattle.pdp_alu.proofs.Divisions.{division_is_unique}
use Rattle.pdp_alu.proofs.extended_laws.quotients_are_unique.Goals as goal

-- src/extended_laws.rt
pub returns-clause-unique : goal.returns-clause-unique
returns-clause-unique c = division_is_unique
