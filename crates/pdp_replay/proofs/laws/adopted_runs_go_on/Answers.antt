use Rattle.pdp_replay.proofs.run.Adoptions.{adopted_runs_go_on}
use Rattle.pdp_replay.proofs.laws.adopted_runs_go_on.Goals as goal

pub returns : goal.returns
returns c = λ p q turn d before taking after here keeps inputs meets none adopts. adopted_runs_go_on p q turn d before taking after here keeps inputs meets none adopts
