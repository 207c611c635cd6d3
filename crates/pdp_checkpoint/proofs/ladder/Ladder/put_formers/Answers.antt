use Rattle.pdp_checkpoint.proofs.Checkpoints.{checkpoints_beside}
use Rattle.pdp_checkpoint.proofs.ladder.Ladder.put_formers.Goals as goal

pub invariant_of-self : goal.invariant_of-self
invariant_of-self c = record {
  checkpoints = checkpoints_beside _ c.self.inside.near.items c.args.formers.items c.self.invariant.checkpoints;
  near = c.self.invariant.near;
  formers = c.requires.few;
}
