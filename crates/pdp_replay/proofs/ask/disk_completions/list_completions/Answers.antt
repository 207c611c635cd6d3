use Rattle.std.proofs.Common.{◌∙◌, ap, length, arith, sym}
use Rattle.pdp_replay.specs.Run.KeptRuns.{Advances}
use Rattle.pdp_replay.specs.Ask.DiskCompletions.{completion_in, is_disk_idle}
use Rattle.pdp_replay.proofs.run.Coming.{advances_further, advances_nowhere, advances_on, arrives_nowhere, arrives_on, arrives_where, can_go_on}
use Rattle.pdp_replay.proofs.run.UnderWay.{kept_of_way}
use Rattle.pdp_replay.proofs.ask.DiskCompletions.{completion_there, ends_after_completion, idle_next, none_idle}
use Rattle.pdp_replay.proofs.ask.ListedTurns.{end_of_full, listed_further, listed_none}
use Rattle.pdp_replay.proofs.ask.disk_completions.list_completions.Goals as goal
use Rattle.pdp_replay.proofs.ask.disk_completions.list_completions.Goals.{After-pass_turn}

-- a run that made a turn more is as far on
advanced : (c : After-pass_turn) → Advances c.args.run.now.machine.state.turn c.args.to c.args.run.now c.pass_turn.new.run
advanced c =
    let before = c.loop-completions.invariant in
    advances_on _ _ _ _ c.args.run.now c.loop-completions.run c.pass_turn.new.run before.on before.there
    (advances_further _ _ _ c.loop-completions.run c.pass_turn.new.run c.pass_turn.ensures.advances
    (omega (arith, c.loop-completions-test.true, c.turns.ensures)))

pub loop-completions-init : goal.loop-completions-init
loop-completions-init c = record {
  way = λ p same on. on;
  there = arrives_nowhere c.args.run.now c.requires.ready;
  on = advances_nowhere c.args.run.now c.args.to c.requires.ready c.requires.order;
  started = omega arith;
  short = let none = ap length c.new-completions.ensures.items in omega (arith, none);
  ended = λ full. let none = ap length c.new-completions.ensures.items in absurd (omega (arith, none, full));
  listed = λ p same on.
      c.new-completions.ensures.items
      ∙ sym (listed_none (completion_in p c.args.run.now.machine.state.turn) c.args.run.now.machine.state.turn _ (omega arith));
  idle = λ p same on. none_idle (is_disk_idle p) c.args.run.now.machine.state.turn _ (omega arith);
}

pub pass_turn-requires-clause-ready : goal.pass_turn-requires-clause-ready
pass_turn-requires-clause-ready c =
    let before = c.loop-completions.invariant in
    can_go_on _ _ _ c.args.run.now c.loop-completions.run before.on before.there

pub loop-completions-preserved : goal.loop-completions-preserved
loop-completions-preserved c =
    let before = c.loop-completions.invariant in
    let first = c.args.run.now.machine.state.turn in
    let turn = c.loop-completions.run.machine.state.turn in
    let now = c.pass_turn.new.run in
    let next = c.in_ok-passed.ensures in
    let passed = c.in_ok-passed.passed in
    let started = before.started in
    let number = next.arrives.turn in
    record {
      way = λ p same under. next.way p same (before.way p same under);
      there = arrives_where _ c.args.run.now now
          (arrives_on _ _ c.args.run.now c.loop-completions.run now before.there (arrives_where _ c.loop-completions.run now next.arrives) (omega arith));
      on = advanced (goal.at.loop-completions-preserved c).After-pass_turn;
      started = omega (arith, number, started);
      short = omega (arith, c.in_ok-add_if_there.ensures.length, c.if-len-lt-MOST_COMPLETIONS.true, c.len.ensures);
      ended = λ full.
          end_of_full (λ item. item.turn) c.loop-completions.completions.items _ c.completion.result now.machine.state.turn c.args.to
          c.in_ok-add_if_there.ensures.items (omega (arith, c.if-len-lt-MOST_COMPLETIONS.true, c.len.ensures))
          (ends_after_completion c.loop-completions.begun passed c.completion.result turn now.machine.state.turn c.completion.ensures next.turn number) full;
      listed = λ p same under.
          let disk = next.disk p same (before.way p same under) in
          listed_further (completion_in p first) first turn now.machine.state.turn c.completion.result c.loop-completions.completions.items _
          started number
          (completion_there p first turn c.loop-completions.begun passed c.completion.result disk (before.idle p same under) c.completion.ensures)
          (before.listed p same under) c.in_ok-add_if_there.ensures.items;
      idle = λ p same under.
          idle_next p first turn now.machine.state.turn c.loop-completions.begun c.last_idle-begun.result passed started number
          (next.disk p same (before.way p same under)) (before.idle p same under) c.last_idle-begun.ensures;
    }

pub returns-in_err-passed-clause-kept : goal.returns-in_err-passed-clause-kept
returns-in_err-passed-clause-kept c = λ p same under. c.pass_turn.ensures.kept p same (c.loop-completions.invariant.way p same under)

pub returns-in_err-passed-clause-advances : goal.returns-in_err-passed-clause-advances
returns-in_err-passed-clause-advances c = advanced (goal.at.returns-in_err-passed-clause-advances c).After-pass_turn

pub returns-in_err-add_if_there-clause-kept : goal.returns-in_err-add_if_there-clause-kept
returns-in_err-add_if_there-clause-kept c = λ p same under.
    kept_of_way p c.pass_turn.new.run (c.in_ok-passed.ensures.way p same (c.loop-completions.invariant.way p same under))

pub returns-in_err-add_if_there-clause-advances : goal.returns-in_err-add_if_there-clause-advances
returns-in_err-add_if_there-clause-advances c = advanced (goal.at.returns-in_err-add_if_there-clause-advances c).After-pass_turn
