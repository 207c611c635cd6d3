use Rattle.std.proofs.Common.{◌∙◌, ◌-◌, ◌<◌, ◌++◌, ap, arith, length, refl, sym}
use Rattle.pdp_script.specs.Entries.{events_at}
use Rattle.pdp_replay.specs.Ask.Accesses.{details_in_turns, details_told, log_of_all}
use Rattle.pdp_replay.proofs.ask.TurnAccesses.{details_further, details_none, ends_more, ends_past, within_none}
use Rattle.pdp_replay.proofs.run.LoggedTurns.{logs_at_most, logs_further, logs_nowhere}
use Rattle.pdp_replay.proofs.ask.accesses.list_accesses.Goals as goal

pub loop-branch-init : goal.loop-branch-init
loop-branch-init c = record {
  on = logs_nowhere c.args.to c.args.script.now log_of_all c.args.branch.now.machine.state c.args.meter.now c.requires.order c.requires.log;
  listed = λ p same here. c.new-details.ensures.items ∙ sym (details_none p c.args.branch.now.machine.state.turn _ (omega arith));
  ends = λ p same here. refl;
}

pub pass_and_tell-requires-clause-log : goal.pass_and_tell-requires-clause-log
pass_and_tell-requires-clause-log c = c.loop-branch.invariant.on.log_is

pub loop-branch-preserved : goal.loop-branch-preserved
loop-branch-preserved c =
    let before = c.loop-branch.invariant in
    let first = c.args.branch.now.machine.state.turn in
    let m = c.loop-branch.branch.machine.state in
    let now = c.pass_and_tell.new.self.machine.state in
    let told = c.in_ok-told.told in
    let next = c.in_ok-told.ensures in
    let started = before.on.least in
    let one = next.turn in
    let left : m.turn < c.args.to = omega (arith, c.loop-branch-test.true, c.turns.ensures) in
    record {
      on = logs_further c.args.to c.args.script.now log_of_all c.args.branch.now.machine.state m now c.args.meter.now c.loop-branch.meter
          c.pass_and_tell.new.meter before.on left next.way one next.ran next.log;
      listed = λ p same here.
          details_further p first m.turn now.turn c.loop-branch.details.items _ started one (before.listed p same here)
          (c.in_ok-list_turn.ensures
          ∙ ap (λ es. c.loop-branch.details.items ++ details_told es now told) (c.at.ensures.events ∙ ap (events_at c.args.script.now.entries) next.head)
          ∙ ap (λ ds. c.loop-branch.details.items ++ ds) (next.details p same (before.on.way p same here)));
      ends = λ p same here.
          before.ends p same here
          ∙ ends_more c.loop-branch.room (length c.cycles-cycles.result.now) p m.turn now.turn c.args.to left one
          (ap length (c.cycles-cycles.ensures ∙ next.cycles p same (before.on.way p same here))) (omega (arith, c.if-cycles-room.false));
    }

pub returns-then-cycles-room-clause-details : goal.returns-then-cycles-room-clause-details
returns-then-cycles-room-clause-details c = λ p same here.
    let first = c.args.branch.now.machine.state.turn in
    c.loop-branch.invariant.listed p same here
    ∙ ap (λ turn. details_in_turns p first (turn - first)) (sym c.in_ok-told.ensures.head)

pub returns-then-cycles-room-clause-reached : goal.returns-then-cycles-room-clause-reached
returns-then-cycles-room-clause-reached c = λ p same here.
    let before = c.loop-branch.invariant in
    let m = c.loop-branch.branch.machine.state in
    let left : m.turn < c.args.to = omega (arith, c.loop-branch-test.true, c.turns.ensures) in
    c.in_ok-told.ensures.head
    ∙ sym (before.ends p same here
    ∙ ends_past c.loop-branch.room (length c.cycles-cycles.result.now) p m.turn c.args.to left
    (ap length (c.cycles-cycles.ensures ∙ c.in_ok-told.ensures.cycles p same (before.on.way p same here))) (omega (arith, c.if-cycles-room.true)))

pub returns-clause-details : goal.returns-clause-details
returns-clause-details c = λ p same here.
    let first = c.args.branch.now.machine.state.turn in
    c.loop-branch.invariant.listed p same here
    ∙ ap (λ turn. details_in_turns p first (turn - first)) (sym c.turns-2.ensures)

pub returns-clause-reached : goal.returns-clause-reached
returns-clause-reached c = λ p same here.
    let turn = c.loop-branch.branch.machine.state.turn in
    let none = within_none c.loop-branch.room p turn c.args.to (omega (arith, c.loop-branch-test.false, c.turns.ensures)) in
    c.turns-2.ensures ∙ sym (c.loop-branch.invariant.ends p same here ∙ omega (arith, none))

pub returns-in_err-told-clause-ran : goal.returns-in_err-told-clause-ran
returns-in_err-told-clause-ran c =
    logs_at_most c.args.to c.args.script.now log_of_all c.args.branch.now.machine.state c.loop-branch.branch.machine.state
    c.pass_and_tell.new.self.machine.state.turn c.args.meter.now c.loop-branch.meter c.pass_and_tell.new.meter c.loop-branch.invariant.on
    (omega (arith, c.loop-branch-test.true, c.turns.ensures)) c.pass_and_tell.ensures.one c.pass_and_tell.ensures.ran

pub returns-in_err-list_turn-clause-ran : goal.returns-in_err-list_turn-clause-ran
returns-in_err-list_turn-clause-ran c =
    logs_at_most c.args.to c.args.script.now log_of_all c.args.branch.now.machine.state c.loop-branch.branch.machine.state
    c.pass_and_tell.new.self.machine.state.turn c.args.meter.now c.loop-branch.meter c.pass_and_tell.new.meter c.loop-branch.invariant.on
    (omega (arith, c.loop-branch-test.true, c.turns.ensures)) c.pass_and_tell.ensures.one c.pass_and_tell.ensures.ran

pub returns-then-cycles-room-clause-ran : goal.returns-then-cycles-room-clause-ran
returns-then-cycles-room-clause-ran c =
    logs_at_most c.args.to c.args.script.now log_of_all c.args.branch.now.machine.state c.loop-branch.branch.machine.state
    c.pass_and_tell.new.self.machine.state.turn c.args.meter.now c.loop-branch.meter c.pass_and_tell.new.meter c.loop-branch.invariant.on
    (omega (arith, c.loop-branch-test.true, c.turns.ensures)) c.pass_and_tell.ensures.one c.pass_and_tell.ensures.ran

pub returns-clause-ran : goal.returns-clause-ran
returns-clause-ran c =
    let on = c.loop-branch.invariant.on in
    let least = on.least in
    let most = on.most in
    let ran = on.ran in
    omega (arith, least, most, ran)

pub returns-in_err-told-clause-counted : goal.returns-in_err-told-clause-counted
returns-in_err-told-clause-counted c =
    let grows = c.loop-branch.invariant.on.grows in
    let ran = c.pass_and_tell.ensures.ran in
    omega (arith, grows, ran)

pub returns-in_err-list_turn-clause-counted : goal.returns-in_err-list_turn-clause-counted
returns-in_err-list_turn-clause-counted c =
    let grows = c.loop-branch.invariant.on.grows in
    let ran = c.pass_and_tell.ensures.ran in
    omega (arith, grows, ran)

pub returns-then-cycles-room-clause-counted : goal.returns-then-cycles-room-clause-counted
returns-then-cycles-room-clause-counted c =
    let grows = c.loop-branch.invariant.on.grows in
    let ran = c.pass_and_tell.ensures.ran in
    omega (arith, grows, ran)

pub returns-clause-counted : goal.returns-clause-counted
returns-clause-counted c = c.loop-branch.invariant.on.grows
