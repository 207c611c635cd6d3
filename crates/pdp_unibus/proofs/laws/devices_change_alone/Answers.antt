use Rattle.pdp_unibus.proofs.Frame.{event_leaves, use_leaves}
use Rattle.pdp_unibus.proofs.laws.devices_change_alone.Goals as goal

-- src/laws.rt
pub returns-clause-uses : goal.returns-clause-uses
returns-clause-uses c = use_leaves

pub returns-clause-events : goal.returns-clause-events
returns-clause-events c = event_leaves
