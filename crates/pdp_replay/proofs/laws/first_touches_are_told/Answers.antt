use Rattle.pdp_replay.proofs.run.LeastTouches.{first_is_least}
use Rattle.pdp_replay.proofs.run.RunFirstTouches.{first_touches_tell, late_forgotten}
use Rattle.pdp_replay.proofs.laws.first_touches_are_told.Goals as goal

pub returns-clause-least : goal.returns-clause-least
returns-clause-least c = first_is_least

pub returns-clause-told : goal.returns-clause-told
returns-clause-told c = λ p part page n small within. first_touches_tell p part page n small within

pub returns-clause-dropped : goal.returns-clause-dropped
returns-clause-dropped c = λ p k d small. late_forgotten p k d small
