use Rattle.std.proofs.Common.{arith}
use Rattle.pdp_replay.specs.declared.ask.accesses.TurnDetail.TheVariants as detail
use Rattle.pdp_replay.proofs.ask.TurnAccesses.{one_more}
use Rattle.pdp_replay.proofs.ask.accesses.list_cycles.Goals as goal

pub loop-index-preserved : goal.loop-index-preserved
loop-index-preserved c =
    rw (c.in_ok-push.ensures.items, c.loop-index.invariant)
    (one_more detail.Cycle c.args.details.now.items c.args.cycles.now c.loop-index.index _ (omega (arith, c.loop-index-test.true)))
