use Rattle.pdp_made_run.proofs.Itself.{run_itself, turn_itself}
use Rattle.pdp_made_run.proofs.laws.each_run_goes_the_same_way_as_itself.Goals as goal

pub returns-clause-turn : goal.returns-clause-turn
returns-clause-turn c = λ t events w. turn_itself t events w

pub returns-clause-run : goal.returns-clause-run
returns-clause-run c = λ events n w. run_itself events n w
