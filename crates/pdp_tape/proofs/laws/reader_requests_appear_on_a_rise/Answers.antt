use Rattle.pdp_tape.proofs.RequestLaws.{served_stay_away}
use Rattle.pdp_tape.proofs.laws.reader_requests_appear_on_a_rise.Goals as goal

-- src/laws.rt
pub returns-clause-served : goal.returns-clause-served
returns-clause-served c = served_stay_away
