use Rattle.std.proofs.Common.{arith}
use Rattle.pdp_checkpoint.proofs.Bounds.{one_removed, pushed_size}
use Rattle.pdp_checkpoint.proofs.Checkpoints.{checkpoints_beside}
use Rattle.pdp_checkpoint.proofs.ladder.Ladder.take_near.Goals as goal

pub invariant_of-self-then-len-gt-MOST_NEAR : goal.invariant_of-self-then-len-gt-MOST_NEAR
invariant_of-self-then-len-gt-MOST_NEAR c =
    let size = pushed_size _ _ _ c.in_ok-push.ensures.items in
    let most = c.self.invariant.near in
    record {
      checkpoints = checkpoints_beside _ c.remove.new.self.items c.self.inside.formers.items c.self.invariant.checkpoints;
      near = one_removed c.push.new.self.items c.remove.new.self.items 256 c.remove.ensures.items (omega (arith, size, most));
      formers = c.self.invariant.formers;
    }

pub invariant_of-self-else-len-gt-MOST_NEAR : goal.invariant_of-self-else-len-gt-MOST_NEAR
invariant_of-self-else-len-gt-MOST_NEAR c = record {
  checkpoints = checkpoints_beside _ c.push.new.self.items c.self.inside.formers.items c.self.invariant.checkpoints;
  near = omega arith;
  formers = c.self.invariant.formers;
}
