use Rattle.std.proofs.Common.{◌∙◌, ap, arith, sym}
use Rattle.pdp_replay.specs.Run.States.{at}
use Rattle.pdp_replay.proofs.ask.writes.find_writes.Goals as goal

pub list_writes-requires-clause-can : goal.list_writes-requires-clause-can
list_writes-requires-clause-can c =
    let can = c.requires.can in
    let there = c.in_ok-reach.ensures in
    let turn = there.arrives.turn in
    let known = there.arrives.known in
    record {
      past = can.past;
      same = can.same;
      run = record {
        kept = (c.reach.ensures.kept can.past can.same can.run).kept;
        here = there.there can.past can.same can.run ∙ ap (at can.past) (sym turn);
        reached = omega (arith, turn, known);
      };
      within = can.within;
    }
