use Rattle.std.proofs.Common.{arith}
use Rattle.pdp_replay.specs.declared.ask.moves.MoveDetail.TheVariants as moved
use Rattle.pdp_replay.proofs.ask.TurnAccesses.{one_more}
use Rattle.pdp_replay.proofs.ask.moves.list_act.Goals as goal

pub loop-index-preserved : goal.loop-index-preserved
loop-index-preserved c =
    rw (c.in_ok-push.ensures.items, c.loop-index.invariant)
    (one_more moved.Act c.args.details.now.items c.args.moves.now c.loop-index.index _ (omega (arith, c.loop-index-test.true)))
