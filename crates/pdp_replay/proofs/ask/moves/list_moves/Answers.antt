use Rattle.std.proofs.Common.{◌≡◌, ◌∙◌, ◌-◌, ◌<◌, ◌++◌, ap, arith, sym}
use Rattle.pdp_replay.specs.Ask.Accesses.{log_of_all}
use Rattle.pdp_replay.specs.Ask.MovesListed.{moves_in_turns}
use Rattle.pdp_replay.proofs.ask.MovesListed.{moves_further, moves_none, noted_is}
use Rattle.pdp_replay.proofs.run.LoggedTurns.{logs_at_most, logs_further, logs_nowhere}
use Rattle.pdp_replay.proofs.ask.moves.list_moves.Goals as goal

pub loop-alloc-init : goal.loop-alloc-init
loop-alloc-init c = record {
  on = logs_nowhere c.args.to c.args.script.now log_of_all c.args.branch.now.machine.state c.args.meter.now c.requires.order c.requires.log;
  listed = λ p same here. c.new-details.ensures.items ∙ sym (moves_none p c.args.branch.now.machine.state.turn _ (omega arith));
}

pub pass_noting-requires-clause-log : goal.pass_noting-requires-clause-log
pass_noting-requires-clause-log c = c.loop-alloc.invariant.on.log_is

pub loop-alloc-preserved : goal.loop-alloc-preserved
loop-alloc-preserved c =
    let before = c.loop-alloc.invariant in
    let first = c.args.branch.now.machine.state.turn in
    let m = c.loop-alloc.branch.machine.state in
    let now = c.pass_noting.new.self.machine.state in
    let next = c.in_ok-pass_noting.ensures in
    let started = before.on.least in
    let one = next.turn in
    let left : m.turn < c.args.to = omega (arith, c.loop-alloc-test.true, c.turns.ensures) in
    record {
      on = logs_further c.args.to c.args.script.now log_of_all c.args.branch.now.machine.state m now c.args.meter.now c.loop-alloc.meter
          c.pass_noting.new.meter before.on left next.way one c.pass_noting.ensures.ran c.pass_noting.ensures.log;
      listed = λ p same here.
          moves_further p first m.turn now.turn c.loop-alloc.details.items _ started one (before.listed p same here)
          (c.in_ok-list_noted.ensures
          ∙ ap (λ ds. c.loop-alloc.details.items ++ ds)
          (noted_is p m.turn c.turns-turn.result c.pass_noting.new.noted now c.turns-turn.ensures
          (next.notes p same (before.on.way p same here)) (next.cycles p same (before.on.way p same here))));
    }

pub returns-clause-moves : goal.returns-clause-moves
returns-clause-moves c = λ p same here.
    let first = c.args.branch.now.machine.state.turn in
    let least = c.loop-alloc.invariant.on.least in
    let most = c.loop-alloc.invariant.on.most in
    let all : c.loop-alloc.branch.machine.state.turn ≡ c.args.to = omega (arith, most, c.loop-alloc-test.false, c.turns.ensures) in
    c.loop-alloc.invariant.listed p same here
    ∙ ap (λ turn. moves_in_turns p first (turn - first)) all

pub returns-in_err-pass_noting-clause-ran : goal.returns-in_err-pass_noting-clause-ran
returns-in_err-pass_noting-clause-ran c =
    logs_at_most c.args.to c.args.script.now log_of_all c.args.branch.now.machine.state c.loop-alloc.branch.machine.state
    c.pass_noting.new.self.machine.state.turn c.args.meter.now c.loop-alloc.meter c.pass_noting.new.meter c.loop-alloc.invariant.on
    (omega (arith, c.loop-alloc-test.true, c.turns.ensures)) c.pass_noting.ensures.one c.pass_noting.ensures.ran

pub returns-in_err-list_noted-clause-ran : goal.returns-in_err-list_noted-clause-ran
returns-in_err-list_noted-clause-ran c =
    logs_at_most c.args.to c.args.script.now log_of_all c.args.branch.now.machine.state c.loop-alloc.branch.machine.state
    c.pass_noting.new.self.machine.state.turn c.args.meter.now c.loop-alloc.meter c.pass_noting.new.meter c.loop-alloc.invariant.on
    (omega (arith, c.loop-alloc-test.true, c.turns.ensures)) c.pass_noting.ensures.one c.pass_noting.ensures.ran

pub returns-clause-ran : goal.returns-clause-ran
returns-clause-ran c =
    let on = c.loop-alloc.invariant.on in
    let least = on.least in
    let most = on.most in
    let ran = on.ran in
    omega (arith, least, most, ran)

pub returns-in_err-pass_noting-clause-counted : goal.returns-in_err-pass_noting-clause-counted
returns-in_err-pass_noting-clause-counted c =
    let grows = c.loop-alloc.invariant.on.grows in
    let ran = c.pass_noting.ensures.ran in
    omega (arith, grows, ran)

pub returns-in_err-list_noted-clause-counted : goal.returns-in_err-list_noted-clause-counted
returns-in_err-list_noted-clause-counted c =
    let grows = c.loop-alloc.invariant.on.grows in
    let ran = c.pass_noting.ensures.ran in
    omega (arith, grows, ran)

pub returns-clause-counted : goal.returns-clause-counted
returns-clause-counted c = c.loop-alloc.invariant.on.grows
