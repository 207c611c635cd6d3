use Rattle.pdp_made_run.proofs.AlikeBeginnings.{beginnings}
use Rattle.pdp_made_run.proofs.laws.beginnings_go_the_same_way.Goals as goal

pub returns : goal.returns
returns c = beginnings
