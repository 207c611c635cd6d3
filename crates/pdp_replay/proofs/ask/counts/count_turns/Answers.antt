use Rattle.std.proofs.Common.{◌≡◌, ◌∙◌, arith, replicate, subst, sym}
use Rattle.pdp_replay.specs.Run.KeptRuns.{Advances, ArrivesAt}
use Rattle.pdp_replay.specs.Ask.Counts.{AreAtMost, AreCountsTo}
use Rattle.pdp_replay.proofs.run.Coming.{advances_nowhere, advances_on, arrives_nowhere, arrives_on, arrives_where, can_go_on}
use Rattle.pdp_replay.proofs.run.UnderWay.{kept_of_way}
use Rattle.pdp_replay.proofs.ask.CountedTurns.{counts_none, counts_on, none_at_most}
use Rattle.pdp_replay.proofs.ask.counts.count_turns.Goals as goal
use Rattle.pdp_replay.proofs.ask.counts.count_turns.Goals.{After-count_leg}

-- a run that made turns more is as far on
advanced : (c : After-count_leg) → Advances c.args.run.now.machine.state.turn c.args.to c.args.run.now c.count_leg.new.run
advanced c =
    let before = c.loop-alloc.invariant in
    advances_on _ _ _ _ c.args.run.now c.loop-alloc.run c.count_leg.new.run before.on before.there c.count_leg.ensures.advances

pub loop-alloc-init : goal.loop-alloc-init
loop-alloc-init c =
    let words = c.args.words in
    let turn = c.args.run.now.machine.state.turn in
    let none : c.in_ok-counts.counts.items ≡ replicate words.count 0 = c.in_ok-counts.ensures.items_if_clones_equal (λ x same. same) in
    record {
      way = λ p same on. on;
      there = arrives_nowhere c.args.run.now c.requires.ready;
      on = advances_nowhere c.args.run.now c.args.to c.requires.ready c.requires.order;
      begun = omega arith;
      few = subst (AreAtMost turn) (sym none) (none_at_most turn words.count);
      counted = λ p same on. none ∙ counts_none p words.mode words.first words.count turn _ (omega arith);
    }

pub count_leg-requires-clause-ready : goal.count_leg-requires-clause-ready
count_leg-requires-clause-ready c =
    let before = c.loop-alloc.invariant in
    can_go_on _ _ _ c.args.run.now c.loop-alloc.run before.on before.there

pub loop-alloc-preserved : goal.loop-alloc-preserved
loop-alloc-preserved c =
    let before = c.loop-alloc.invariant in
    let now = c.count_leg.new.run in
    let leg = c.in_ok-count_leg.ensures in
    let begun = before.begun in
    let on = leg.on in
    record {
      way = λ p same under. leg.way p same (before.way p same under);
      there = arrives_where _ c.args.run.now now
          (arrives_on _ _ c.args.run.now c.loop-alloc.run now before.there (arrives_where _ c.loop-alloc.run now leg.arrives) (omega (arith, on)));
      on = advanced (goal.at.loop-alloc-preserved c).After-count_leg;
      begun = omega (arith, on, begun);
      few = leg.few;
      counted = λ p same under.
          counts_on p c.args.words c.args.run.now.machine.state.turn c.loop-alloc.run.machine.state.turn now.machine.state.turn c.loop-alloc.counts.items _
          begun (omega (arith, on)) (before.counted p same under) (leg.counts p same (before.way p same under));
    }

pub returns-in_err-count_leg-clause-kept : goal.returns-in_err-count_leg-clause-kept
returns-in_err-count_leg-clause-kept c = λ p same under. c.count_leg.ensures.kept p same (c.loop-alloc.invariant.way p same under)

pub returns-in_err-count_leg-clause-advances : goal.returns-in_err-count_leg-clause-advances
returns-in_err-count_leg-clause-advances c = advanced (goal.at.returns-in_err-count_leg-clause-advances c).After-count_leg

pub returns-in_err-counts-clause-kept : goal.returns-in_err-counts-clause-kept
returns-in_err-counts-clause-kept c = λ p same under. kept_of_way p c.args.run.now under

pub returns-in_err-counts-clause-advances : goal.returns-in_err-counts-clause-advances
returns-in_err-counts-clause-advances c = advances_nowhere c.args.run.now c.args.to c.requires.ready c.requires.order

pub returns-clause-arrives : goal.returns-clause-arrives
returns-clause-arrives c =
    let here = c.loop-alloc.invariant in
    let most = here.on.turn_most in
    let turn : c.loop-alloc.run.machine.state.turn ≡ c.args.to = omega (arith, most, c.loop-alloc-test.false, c.turns.ensures) in
    subst (λ n. ArrivesAt n c.args.run.now c.loop-alloc.run) turn here.there

pub returns-clause-counts : goal.returns-clause-counts
returns-clause-counts c =
    let here = c.loop-alloc.invariant in
    let most = here.on.turn_most in
    let turn : c.loop-alloc.run.machine.state.turn ≡ c.args.to = omega (arith, most, c.loop-alloc-test.false, c.turns.ensures) in
    subst (λ n. AreCountsTo n c.args.script.now c.args.words c.args.run.now c.loop-alloc.counts.items) turn here.counted
