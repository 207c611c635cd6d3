use Rattle.pdp_checkpoint.proofs.Bounds.{formers_edited}
use Rattle.pdp_checkpoint.proofs.Checkpoints.{checkpoints_beside}
use Rattle.pdp_checkpoint.proofs.ladder.Ladder.edit_formers.Goals as goal

pub invariant_of-self : goal.invariant_of-self
invariant_of-self c = record {
  checkpoints = checkpoints_beside _ c.self.inside.near.items c.edit_each.new.formers.items c.self.invariant.checkpoints;
  near = c.self.invariant.near;
  formers = rw c.edit_each.ensures (formers_edited c.args.turn c.self.inside.formers.items c.self.invariant.formers);
}
