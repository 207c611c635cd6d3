use Rattle.std.proofs.Common.{ap, arith, length}
use Rattle.pdp_checkpoint.proofs.Checkpoints.{checkpoints_beside}
use Rattle.pdp_checkpoint.proofs.ladder.Ladder.drop_near.Goals as goal

pub invariant_of-self : goal.invariant_of-self
invariant_of-self c = record {
  checkpoints = checkpoints_beside _ c.clear.new.self.items c.self.inside.formers.items c.self.invariant.checkpoints;
  near = let none = ap length c.clear.ensures.items in omega (arith, none);
  formers = c.self.invariant.formers;
}
