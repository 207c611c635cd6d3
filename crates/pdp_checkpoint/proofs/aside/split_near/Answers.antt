use Rattle.std.proofs.Common.{◌∙◌, ◌-◌, arith}
use Rattle.pdp_checkpoint.proofs.Bounds.{one_longer}
use Rattle.pdp_checkpoint.proofs.FormerStates.{above_added, near_kept, near_left, same_read, there_at, was_there}
use Rattle.pdp_checkpoint.proofs.aside.split_near.Goals as goal

pub loop-place-preserved-then-index-turn : goal.loop-place-preserved-then-index-turn
loop-place-preserved-then-index-turn c =
    let all = c.args.near.now.items in
    let place = c.loop-place.place in
    let before = c.loop-place.invariant in
    let some = c.loop-place-test.true in
    let here = was_there _ all _ place _ some before.within before.near c.index.ensures in
    let there = was_there _ all _ place _ some before.within before.near c.remove.ensures.value in
    let few = before.few in
    let more = one_longer c.loop-place.late.items c.add.new.list.items c.remove.result c.add.ensures in
    record {
      near = c.remove.ensures.items ∙ near_left c.args.turn all _ place _ some before.within here c.if-index-turn.true before.near;
      within = omega (arith, before.within);
      late = above_added c.args.turn all c.loop-place.late.items c.add.new.list.items c.remove.result before.late
          (record { there = there_at all place _ some before.within there; late = rw (← same_read _ (place - 1) _ _ (omega (arith, some, before.within)) here there) c.if-index-turn.true }) c.add.ensures;
      few = omega (arith, few, more, some);
    }

pub loop-place-preserved : goal.loop-place-preserved
loop-place-preserved c =
    let all = c.args.near.now.items in
    let place = c.loop-place.place in
    let before = c.loop-place.invariant in
    let some = c.loop-place-test.true in
    let here = was_there _ all _ place _ some before.within before.near c.index.ensures in
    record {
      near = near_kept c.args.turn all _ place _ some before.within here c.if-index-turn.false before.near;
      within = omega (arith, before.within);
      late = before.late;
      few = let few = before.few in omega (arith, few);
    }
