use Rattle.pdp_replay.proofs.run.Meetings.{first_touches_are_taken, no_more_again}
use Rattle.pdp_replay.proofs.laws.first_touches_are_taken.Goals as goal

pub returns-clause-taken : goal.returns-clause-taken
returns-clause-taken c = λ p q turn d meet none. first_touches_are_taken p q turn d meet none

pub returns-clause-again : goal.returns-clause-again
returns-clause-again c = λ p q turn d meet none. no_more_again p q turn d meet none
