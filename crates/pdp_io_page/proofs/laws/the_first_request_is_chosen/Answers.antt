use Rattle.pdp_io_page.proofs.RequestLaws.{none_is_chosen, the_first_is_chosen}
use Rattle.pdp_io_page.proofs.laws.the_first_request_is_chosen.Goals as goal

-- src/laws.rt
pub returns-clause-first : goal.returns-clause-first
returns-clause-first c = the_first_is_chosen

pub returns-clause-none : goal.returns-clause-none
returns-clause-none c = none_is_chosen
