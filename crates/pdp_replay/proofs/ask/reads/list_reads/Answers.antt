use Rattle.std.proofs.Common.{◌∙◌, ◌*◌, ap, length, arith, sym}
use Rattle.pdp_replay.specs.Ask.Reads.{log_of_first_read, read_in}
use Rattle.pdp_replay.proofs.ask.ListedTurns.{end_of_full, listed_further, listed_none}
use Rattle.pdp_replay.proofs.run.LoggedTurns.{logs_at_most, logs_further, logs_nowhere}
use Rattle.pdp_replay.proofs.ask.reads.list_reads.Goals as goal

pub loop-reads-init : goal.loop-reads-init
loop-reads-init c = record {
  on = logs_nowhere c.args.to c.args.script.now (log_of_first_read (c.args.number * 2)) c.args.branch.now.machine.state c.args.meter.now
      c.requires.order c.requires.log;
  within = c.requires.within;
  short = let none = ap length c.new-reads.ensures.items in omega (arith, none);
  ended = λ full. let none = ap length c.new-reads.ensures.items in absurd (omega (arith, none, full));
  listed = λ p same here.
      c.new-reads.ensures.items
      ∙ sym (listed_none (read_in p c.args.number) c.args.branch.now.machine.state.turn _ (omega arith));
}

pub first_read-requires-clause-log : goal.first_read-requires-clause-log
first_read-requires-clause-log c = c.loop-reads.invariant.on.log_is

pub loop-reads-preserved : goal.loop-reads-preserved
loop-reads-preserved c =
    let before = c.loop-reads.invariant in
    let first = c.args.branch.now.machine.state.turn in
    let turn = c.loop-reads.branch.machine.state.turn in
    let now = c.first_read.new.self.machine.state in
    let next = c.in_ok-read.ensures in
    let read = c.in_ok-read.read in
    let started = before.on.least in
    let one = next.turn in
    let size = next.size in
    let inside = before.within in
    record {
      on = logs_further c.args.to c.args.script.now (log_of_first_read (c.args.number * 2)) c.args.branch.now.machine.state
          c.loop-reads.branch.machine.state now c.args.meter.now c.loop-reads.meter c.first_read.new.meter before.on
          (omega (arith, c.loop-reads-test.true, c.turns.ensures)) next.way one next.ran (next.log ∙ before.on.log_is);
      within = omega (arith, size, inside);
      short = omega (arith, c.in_ok-add_if_there.ensures.length, c.if-len-lt-MOST_READS.true, c.len.ensures);
      ended = λ full.
          end_of_full (λ item. item.turn) c.loop-reads.reads.items _ read now.turn c.args.to
          c.in_ok-add_if_there.ensures.items (omega (arith, c.if-len-lt-MOST_READS.true, c.len.ensures))
          next.ends full;
      listed = λ p same here.
          listed_further (read_in p c.args.number) first turn now.turn read c.loop-reads.reads.items _
          started one (next.read p same (before.on.way p same here)) (before.listed p same here) c.in_ok-add_if_there.ensures.items;
    }

pub returns-in_err-read-clause-ran_to : goal.returns-in_err-read-clause-ran_to
returns-in_err-read-clause-ran_to c =
    logs_at_most c.args.to c.args.script.now (log_of_first_read (c.args.number * 2)) c.args.branch.now.machine.state c.loop-reads.branch.machine.state
    c.first_read.new.self.machine.state.turn c.args.meter.now c.loop-reads.meter c.first_read.new.meter c.loop-reads.invariant.on
    (omega (arith, c.loop-reads-test.true, c.turns.ensures)) c.first_read.ensures.one c.first_read.ensures.ran

pub returns-in_err-add_if_there-clause-ran_to : goal.returns-in_err-add_if_there-clause-ran_to
returns-in_err-add_if_there-clause-ran_to c =
    logs_at_most c.args.to c.args.script.now (log_of_first_read (c.args.number * 2)) c.args.branch.now.machine.state c.loop-reads.branch.machine.state
    c.first_read.new.self.machine.state.turn c.args.meter.now c.loop-reads.meter c.first_read.new.meter c.loop-reads.invariant.on
    (omega (arith, c.loop-reads-test.true, c.turns.ensures)) c.first_read.ensures.one c.first_read.ensures.ran

pub returns-clause-ran_to : goal.returns-clause-ran_to
returns-clause-ran_to c =
    let on = c.loop-reads.invariant.on in
    let least = on.least in
    let most = on.most in
    let ran = on.ran in
    omega (arith, least, most, ran)

pub returns-in_err-read-clause-counted : goal.returns-in_err-read-clause-counted
returns-in_err-read-clause-counted c =
    let grows = c.loop-reads.invariant.on.grows in
    let ran = c.first_read.ensures.ran in
    omega (arith, grows, ran)

pub returns-in_err-add_if_there-clause-counted : goal.returns-in_err-add_if_there-clause-counted
returns-in_err-add_if_there-clause-counted c =
    let grows = c.loop-reads.invariant.on.grows in
    let ran = c.first_read.ensures.ran in
    omega (arith, grows, ran)

pub returns-clause-counted : goal.returns-clause-counted
returns-clause-counted c = c.loop-reads.invariant.on.grows
