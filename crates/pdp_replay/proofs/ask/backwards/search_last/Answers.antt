use Rattle.std.proofs.Common.{arith, subst, sym}
use Rattle.pdp_replay.specs.Ask.Backwards.{IsLastOf}
use Rattle.pdp_replay.specs.Ask.Watches.{is_watched_at}
use Rattle.pdp_replay.proofs.run.Coming.{advances_on, arrives_on, arrives_where}
use Rattle.pdp_replay.proofs.ask.LastTurns.{last_more}
use Rattle.pdp_replay.proofs.ask.backwards.search_last.Goals as goal

pub loop-alloc-preserved : goal.loop-alloc-preserved
loop-alloc-preserved c =
    let before = c.loop-alloc.invariant in
    let next = c.in_ok-found.ensures in
    let now = c.search.new.run in
    let begun = before.begun in
    let test = c.loop-alloc-test.true in
    let on = next.on in
    record {
      way = λ p same under. next.way p same (before.way p same under);
      there = arrives_where _ c.args.run.now now
          (arrives_on _ _ c.args.run.now c.loop-alloc.run now before.there (arrives_where _ c.loop-alloc.run now next.arrives) (omega (arith, on, test)));
      on = advances_on _ _ _ _ c.args.run.now c.loop-alloc.run now before.on before.there c.search.ensures.advances;
      begun = omega (arith, on, test, begun);
      inside = next.inside;
      last = λ p same under.
          subst (IsLastOf (is_watched_at p c.args.watch) c.args.run.now.machine.state.turn now.machine.state.turn) (sym c.or-last.ensures)
          (last_more (is_watched_at p c.args.watch) c.args.run.now.machine.state.turn c.loop-alloc.run.machine.state.turn c.args.to now.machine.state.turn
          c.in_ok-found.found c.loop-alloc.last begun (omega (arith, test)) (before.last p same under) (next.found p same (before.way p same under)) next.arrives.turn);
    }
