use Rattle.std.proofs.Common.{ap, length, arith, sym, ◌∙◌}
use Rattle.pdp_replay.specs.Run.KeptRuns.{Advances}
use Rattle.pdp_replay.proofs.run.Coming.{advances_nowhere, advances_on, arrives_nowhere, arrives_on, arrives_where, can_go_on}
use Rattle.pdp_replay.proofs.run.UnderWay.{kept_of_way}
use Rattle.pdp_replay.specs.Ask.Writes.{write_in}
use Rattle.pdp_replay.proofs.ask.ListedTurns.{end_of_full, listed_none}
use Rattle.pdp_replay.proofs.ask.ListedWrites.{ends_after_write, next_listed}
use Rattle.pdp_replay.proofs.ask.writes.list_writes.Goals as goal
use Rattle.pdp_replay.proofs.ask.writes.list_writes.Goals.{After-next_write}

-- a run that made turns more is as far on
advanced : (c : After-next_write) → Advances c.args.run.now.machine.state.turn c.args.to c.args.run.now c.next_write.new.run
advanced c =
    let before = c.loop-writes.invariant in
    advances_on _ _ _ _ c.args.run.now c.loop-writes.run c.next_write.new.run before.on before.there c.next_write.ensures.advances

pub loop-writes-init : goal.loop-writes-init
loop-writes-init c = record {
  way = λ p same on. on;
  there = arrives_nowhere c.args.run.now c.requires.ready;
  on = advances_nowhere c.args.run.now c.args.to c.requires.ready c.requires.order;
  begun = omega arith;
  can = c.requires.can;
  short = let none = ap length c.new-writes.ensures.items in omega (arith, none);
  ended = λ full. let none = ap length c.new-writes.ensures.items in absurd (omega (arith, none, full));
  listed = λ p same on. c.new-writes.ensures.items ∙ sym (listed_none (write_in p c.args.number) c.args.run.now.machine.state.turn _ (omega arith));
}

pub next_write-requires-clause-ready : goal.next_write-requires-clause-ready
next_write-requires-clause-ready c =
    let before = c.loop-writes.invariant in
    can_go_on _ _ _ c.args.run.now c.loop-writes.run before.on before.there

pub loop-writes-preserved : goal.loop-writes-preserved
loop-writes-preserved c =
    let before = c.loop-writes.invariant in
    let first = c.args.run.now.machine.state.turn in
    let turn = c.loop-writes.run.machine.state.turn in
    let now = c.next_write.new.run in
    let next = c.in_ok-write.ensures in
    let begun = before.begun in
    let on = next.on in
    record {
      way = λ p same under. next.way p same (before.way p same under);
      there = arrives_where _ c.args.run.now now
          (arrives_on _ _ c.args.run.now c.loop-writes.run now before.there (arrives_where _ c.loop-writes.run now next.arrives) (omega (arith, on)));
      on = advanced (goal.at.loop-writes-preserved c).After-next_write;
      begun = omega (arith, on, begun);
      can = next.can;
      short = omega (arith, c.in_ok-add_if_there.ensures.length, c.if-len-lt-MOST_WRITES.true, c.len.ensures);
      ended = λ full.
          end_of_full (λ w. w.turn) c.loop-writes.writes.items _ c.in_ok-write.write now.machine.state.turn c.args.to c.in_ok-add_if_there.ensures.items
          (omega (arith, c.if-len-lt-MOST_WRITES.true, c.len.ensures)) (ends_after_write c.in_ok-write.write _ c.args.to next.arrives.turn) full;
      listed = λ p same under.
          next_listed p c.args.number first turn now.machine.state.turn c.args.to c.in_ok-write.write c.loop-writes.writes.items _
          begun (omega (arith, on)) (next.write p same (before.way p same under)) next.arrives.turn (before.listed p same under) c.in_ok-add_if_there.ensures.items;
    }

pub returns-in_err-write-clause-kept : goal.returns-in_err-write-clause-kept
returns-in_err-write-clause-kept c = λ p same under. c.next_write.ensures.kept p same (c.loop-writes.invariant.way p same under)

pub returns-in_err-write-clause-advances : goal.returns-in_err-write-clause-advances
returns-in_err-write-clause-advances c = advanced (goal.at.returns-in_err-write-clause-advances c).After-next_write

pub returns-in_err-add_if_there-clause-kept : goal.returns-in_err-add_if_there-clause-kept
returns-in_err-add_if_there-clause-kept c = λ p same under.
    kept_of_way p c.next_write.new.run (c.in_ok-write.ensures.way p same (c.loop-writes.invariant.way p same under))

pub returns-in_err-add_if_there-clause-advances : goal.returns-in_err-add_if_there-clause-advances
returns-in_err-add_if_there-clause-advances c = advanced (goal.at.returns-in_err-add_if_there-clause-advances c).After-next_write
