use Rattle.std.proofs.Common.{arith}
use Rattle.pdp_replay.proofs.ask.TurnAccesses.{one_more_byte}
use Rattle.pdp_replay.proofs.ask.accesses.list_output.Goals as goal

pub loop-index-preserved : goal.loop-index-preserved
loop-index-preserved c =
    rw (c.in_ok-push.ensures.items, c.loop-index.invariant)
    (one_more_byte c.args.kind c.args.details.now.items c.args.bytes.now c.loop-index.index _ (omega (arith, c.loop-index-test.true)))
