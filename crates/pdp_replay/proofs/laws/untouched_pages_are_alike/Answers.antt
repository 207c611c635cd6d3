use Rattle.pdp_replay.proofs.run.AlikePages.{pages_alike}
use Rattle.pdp_replay.proofs.laws.untouched_pages_are_alike.Goals as goal

pub returns : goal.returns
returns c = pages_alike
