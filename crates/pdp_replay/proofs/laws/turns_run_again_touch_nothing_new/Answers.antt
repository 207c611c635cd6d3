use Rattle.pdp_replay.proofs.run.RunFirstTouches.{again_nothing}
use Rattle.pdp_replay.proofs.laws.turns_run_again_touch_nothing_new.Goals as goal

pub returns : goal.returns
returns c = λ p t known below. again_nothing p t known below
