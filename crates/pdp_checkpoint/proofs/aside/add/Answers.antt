use Rattle.pdp_checkpoint.proofs.FormerStates.{either}
use Rattle.pdp_checkpoint.proofs.aside.add.Goals as goal

pub returns : goal.returns
returns g c = either _ _ _ _ c.push.ensures.items
