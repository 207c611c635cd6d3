use Rattle.std.proofs.Common.{◌*◌, ap, arith}
use Rattle.pdp_checkpoint.specs.Ladder.{LadderData, checkpoint_of}
use Rattle.pdp_checkpoint.proofs.Checkpoints.{IsPushed, IsTaken, pushed_in_room, pushed_at_full}
use Rattle.pdp_checkpoint.proofs.ladder.Ladder.take.Goals as goal

in_room : (c : goal.Else-len-gt-MOST_KEPT)
    → IsTaken c.args.self.now (checkpoint_of c.args.machine.now.state) (record { kept = c.push.new.self.items; stride = c.self.inside.stride; near = c.self.inside.near.items; formers = c.self.inside.formers.items })
in_room c =
    let now : LadderData = record { kept = c.push.new.self.items; stride = c.self.inside.stride; near = c.self.inside.near.items; formers = c.self.inside.formers.items } in
    let pushed : IsPushed c.args.self.now c.args.machine.now.state now c.next-turn.result c.in_ok-saved.saved = record {
      checkpoints = c.next-turn.ensures.checkpoints;
      next = c.requires.next;
      limit = c.requires.limit;
      turn_is = c.next-turn.ensures.next;
      saved_is = c.in_ok-saved.ensures.saved;
      kept = rw (← c.self.view_is) c.in_ok-push.ensures.items;
      stride = ap (λ l. l.stride) c.self.view_is;
      near = ap (λ l. l.near) c.self.view_is;
      formers = ap (λ l. l.formers) c.self.view_is;
    } in
    pushed_in_room c.args.self.now c.args.machine.now.state now c.next-turn.result c.in_ok-saved.saved pushed (omega arith)

at_full : (c : goal.After-thin)
    → IsTaken c.args.self.now (checkpoint_of c.args.machine.now.state) (record { kept = c.thin.new.kept.items; stride = c.self.inside.stride * 2; near = c.self.inside.near.items; formers = c.self.inside.formers.items })
at_full c =
    let now : LadderData = record { kept = c.push.new.self.items; stride = c.self.inside.stride; near = c.self.inside.near.items; formers = c.self.inside.formers.items } in
    let pushed : IsPushed c.args.self.now c.args.machine.now.state now c.next-turn.result c.in_ok-saved.saved = record {
      checkpoints = c.next-turn.ensures.checkpoints;
      next = c.requires.next;
      limit = c.requires.limit;
      turn_is = c.next-turn.ensures.next;
      saved_is = c.in_ok-saved.ensures.saved;
      kept = rw (← c.self.view_is) c.in_ok-push.ensures.items;
      stride = ap (λ l. l.stride) c.self.view_is;
      near = ap (λ l. l.near) c.self.view_is;
      formers = ap (λ l. l.formers) c.self.view_is;
    } in
    rw c.thin.ensures (pushed_at_full c.args.self.now c.args.machine.now.state now c.next-turn.result c.in_ok-saved.saved pushed (omega arith))

pub invariant_of-self-then-len-gt-MOST_KEPT : goal.invariant_of-self-then-len-gt-MOST_KEPT
invariant_of-self-then-len-gt-MOST_KEPT c = record { checkpoints = (at_full c).checkpoints; near = c.self.invariant.near; formers = c.self.invariant.formers }

pub invariant_of-self-else-len-gt-MOST_KEPT : goal.invariant_of-self-else-len-gt-MOST_KEPT
invariant_of-self-else-len-gt-MOST_KEPT c = record { checkpoints = (in_room c).checkpoints; near = c.self.invariant.near; formers = c.self.invariant.formers }

pub returns-then-len-gt-MOST_KEPT-clause-kept : goal.returns-then-len-gt-MOST_KEPT-clause-kept
returns-then-len-gt-MOST_KEPT-clause-kept c = (at_full c).is

pub returns-then-len-gt-MOST_KEPT-clause-next : goal.returns-then-len-gt-MOST_KEPT-clause-next
returns-then-len-gt-MOST_KEPT-clause-next c = (at_full c).next

pub returns-then-len-gt-MOST_KEPT-clause-checkpoints : goal.returns-then-len-gt-MOST_KEPT-clause-checkpoints
returns-then-len-gt-MOST_KEPT-clause-checkpoints c = (at_full c).checkpoints

pub returns-else-len-gt-MOST_KEPT-clause-kept : goal.returns-else-len-gt-MOST_KEPT-clause-kept
returns-else-len-gt-MOST_KEPT-clause-kept c = (in_room c).is

pub returns-else-len-gt-MOST_KEPT-clause-checkpoints : goal.returns-else-len-gt-MOST_KEPT-clause-checkpoints
returns-else-len-gt-MOST_KEPT-clause-checkpoints c = (in_room c).checkpoints
