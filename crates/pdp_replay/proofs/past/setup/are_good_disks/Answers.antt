use Rattle.std.proofs.Common.{◌∙◌}
use Rattle.pdp_replay.proofs.past.Setups.{few_good}
use Rattle.pdp_replay.proofs.past.setup.are_good_disks.Goals as goal

pub returns-then-disks-le-MOST_DRIVES : goal.returns-then-disks-le-MOST_DRIVES
returns-then-disks-le-MOST_DRIVES c = c.all_fit.ensures ∙ few_good c.args.disks.now c.if-disks-le-MOST_DRIVES.true
