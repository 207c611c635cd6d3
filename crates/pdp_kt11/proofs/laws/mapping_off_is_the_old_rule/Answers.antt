use Rattle.pdp_kt11.proofs.AbortLaws.{mapping_off}
use Rattle.pdp_kt11.proofs.laws.mapping_off_is_the_old_rule.Goals as goal

-- src/laws.rt
pub returns : goal.returns
returns c = mapping_off
