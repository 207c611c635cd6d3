use Rattle.pdp_io_page.proofs.RequestLaws.{others_go_on, requests_are_told, reset_drops_requests, served_sources_are_silent}
use Rattle.pdp_io_page.proofs.laws.requests_go_one_by_one_or_by_reset.Goals as goal

-- src/laws.rt
pub returns-clause-told : goal.returns-clause-told
returns-clause-told c = requests_are_told

pub returns-clause-served : goal.returns-clause-served
returns-clause-served c = served_sources_are_silent

pub returns-clause-others : goal.returns-clause-others
returns-clause-others c = others_go_on

pub returns-clause-reset : goal.returns-clause-reset
returns-clause-reset c = reset_drops_requests
