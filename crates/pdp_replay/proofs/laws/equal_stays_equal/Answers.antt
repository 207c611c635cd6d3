use Rattle.pdp_replay.proofs.run.Meetings.{equal_stays_equal, meet_again}
use Rattle.pdp_replay.proofs.laws.equal_stays_equal.Goals as goal

pub returns-clause-equal : goal.returns-clause-equal
returns-clause-equal c = λ p q turn d meet. equal_stays_equal p q turn d meet

pub returns-clause-again : goal.returns-clause-again
returns-clause-again c = λ p q turn d meet. meet_again p q turn d meet
