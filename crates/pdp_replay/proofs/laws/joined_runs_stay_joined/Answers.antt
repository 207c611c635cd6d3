use Rattle.pdp_replay.proofs.ask.Fadings.{joined_is_decided, joined_stay_joined}
use Rattle.pdp_replay.proofs.laws.joined_runs_stay_joined.Goals as goal

pub returns-clause-stay : goal.returns-clause-stay
returns-clause-stay c = λ p q n k tape le joined. joined_stay_joined p q n k tape le joined

pub returns-clause-decided : goal.returns-clause-decided
returns-clause-decided c = λ p q n. joined_is_decided p q n
