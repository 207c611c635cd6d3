use Rattle.pdp_store.proofs.SerialLaws.{serials_are_given_once}
use Rattle.pdp_store.proofs.laws.serials_are_given_once.Goals as goal

-- src/laws.rt
pub returns : goal.returns
returns c = serials_are_given_once
