use Rattle.std.proofs.Common.{◌+◌, ◌/◌, ◌≤◌, ◌∙◌, All, arith, length, nat_le, subst, sym}
use Rattle.pdp_checkpoint.specs.Ladder.{LadderData}
use Rattle.pdp_checkpoint.specs.declared.checkpoint.Checkpoint.{Checkpoint}
use Rattle.pdp_checkpoint.specs.Formers.{IsLeft, most_states}
use Rattle.pdp_checkpoint.proofs.Bounds.{filtered_fewer, formers_left}
use Rattle.pdp_checkpoint.proofs.Checkpoints.{below_is_first, checkpoints_beside, checkpoints_cut}
use Rattle.pdp_checkpoint.proofs.FormerStates.{is_set_aside}
use Rattle.pdp_checkpoint.proofs.ladder.Ladder.add_former.Goals as goal

pub invariant_of-self : goal.invariant_of-self
invariant_of-self c =
    let l : LadderData = record { kept = c.self.inside.kept.items; stride = c.self.inside.stride; near = c.self.inside.near.items; formers = c.self.inside.formers.items } in
    let cut = checkpoints_cut l (c.args.turn / l.stride + 1) c.self.invariant.checkpoints (omega arith) in
    let few : length c.split_near-near.new.near.items ≤ length l.near =
    rw c.split_near-near.ensures.near (filtered_fewer (λ (s : Checkpoint). nat_le s.turn c.args.turn) l.near) in
    let most = c.self.invariant.near in
    let kept_off = c.split_kept-kept.ensures.few in
    let near_off = c.split_near-near.ensures.few in
    let most_kept = c.self.invariant.checkpoints.few in
    let small : length c.split_kept-kept.result.items + length c.split_near-near.result.items ≤ most_states = omega (arith, kept_off, near_off, most_kept, most) in
    record {
      checkpoints = rw c.split_kept-kept.ensures.kept (checkpoints_beside _ c.split_near-near.new.near.items c.add_former.new.formers.items cut);
      near = omega (arith, few, most);
      formers = formers_left c.split_kept-kept.result.items c.split_near-near.result.items c.args.former l.formers c.add_former.new.formers.items small c.self.invariant.formers
          (subst (λ f. All (IsLeft f l.formers) c.add_former.new.formers.items) c.with_states-former.ensures c.add_former.ensures.left) c.add_former.ensures.few;
    }

pub returns-clause-kept : goal.returns-clause-kept
returns-clause-kept c =
    let l : LadderData = record { kept = c.self.inside.kept.items; stride = c.self.inside.stride; near = c.self.inside.near.items; formers = c.self.inside.formers.items } in
    rw (← c.self.view_is) (c.split_kept-kept.ensures.kept ∙ sym (below_is_first l c.args.turn c.self.invariant.checkpoints))

pub returns-clause-near : goal.returns-clause-near
returns-clause-near c = rw (← c.self.view_is) c.split_near-near.ensures.near

pub returns-clause-formers : goal.returns-clause-formers
returns-clause-formers c =
    let l : LadderData = record { kept = c.self.inside.kept.items; stride = c.self.inside.stride; near = c.self.inside.near.items; formers = c.self.inside.formers.items } in
    rw (← c.self.view_is) (is_set_aside l c.args.turn c.split_kept-kept.result.items c.split_near-near.result.items l.formers c.add_former.new.formers.items c.args.former c.self.invariant.checkpoints
    c.split_kept-kept.ensures.late c.split_near-near.ensures.late
    (subst (λ f. All (IsLeft f l.formers) c.add_former.new.formers.items) c.with_states-former.ensures c.add_former.ensures.left))

pub returns-clause-checkpoints : goal.returns-clause-checkpoints
returns-clause-checkpoints c = (invariant_of-self c).checkpoints
