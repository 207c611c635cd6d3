use Rattle.std.proofs.Common.{◌+◌, ◌/◌, ◌≤◌, arith, length, nat_le, sym, ◌∙◌}
use Rattle.pdp_checkpoint.specs.declared.checkpoint.Checkpoint.{Checkpoint}
use Rattle.pdp_checkpoint.proofs.Bounds.{filtered_fewer}
use Rattle.pdp_checkpoint.specs.Ladder.{LadderData}
use Rattle.pdp_checkpoint.proofs.Checkpoints.{below_is_first, checkpoints_beside, checkpoints_cut}
use Rattle.pdp_checkpoint.proofs.ladder.Ladder.cut.Goals as goal

pub invariant_of-self : goal.invariant_of-self
invariant_of-self c =
    let l : LadderData = record { kept = c.self.inside.kept.items; stride = c.self.inside.stride; near = c.self.inside.near.items; formers = c.self.inside.formers.items } in
    let cut = checkpoints_cut l (c.args.turn / l.stride + 1) c.self.invariant.checkpoints (omega arith) in
    let few : length c.cut_near.new.near.items ≤ length l.near = rw c.cut_near.ensures (filtered_fewer (λ (s : Checkpoint). nat_le s.turn c.args.turn) l.near) in
    let most = c.self.invariant.near in
    record {
      checkpoints = rw c.truncate.ensures.items (checkpoints_beside _ c.cut_near.new.near.items c.self.inside.formers.items cut);
      near = omega (arith, few, most);
      formers = c.self.invariant.formers;
    }

pub returns-clause-kept : goal.returns-clause-kept
returns-clause-kept c =
    let l : LadderData = record { kept = c.self.inside.kept.items; stride = c.self.inside.stride; near = c.self.inside.near.items; formers = c.self.inside.formers.items } in
    rw (← c.self.view_is) (c.truncate.ensures.items ∙ sym (below_is_first l c.args.turn c.self.invariant.checkpoints))

pub returns-clause-checkpoints : goal.returns-clause-checkpoints
returns-clause-checkpoints c = (invariant_of-self c).checkpoints
