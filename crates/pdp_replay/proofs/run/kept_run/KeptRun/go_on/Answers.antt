use Rattle.std.proofs.Common.{arith}
use Rattle.pdp_replay.proofs.run.Coming.{advances_further, advances_near, advances_nowhere, advances_on, arrives_near, arrives_nowhere, arrives_on, arrives_where, can_go_on}
use Rattle.pdp_replay.proofs.run.FormerRuns.{meets_near}
use Rattle.pdp_replay.proofs.run.UnderWay.{kept_of_way}
use Rattle.pdp_replay.proofs.run.kept_run.KeptRun.go_on.Goals as goal

pub loop-next-init : goal.loop-next-init
loop-next-init c =
    let kept = c.keep_between.ensures in
    let there = arrives_near _ _ c.args.self.now c.args.self.now _ kept.same (arrives_nowhere c.args.self.now c.requires.ready) in
    record {
      meets = λ p meets. meets_near p c.args.former.now c.args.there.now _ c.args.self.now _ kept.same (kept.way p meets.way) meets;
      there = arrives_where _ _ _ there;
      on = advances_near _ _ _ c.args.self.now c.args.self.now _ kept.same
          (advances_nowhere c.args.self.now c.args.to c.requires.ready c.requires.forward);
    }

pub adopt_and_keep-requires-clause-ready : goal.adopt_and_keep-requires-clause-ready
adopt_and_keep-requires-clause-ready c =
    let before = c.loop-next.invariant in
    can_go_on _ _ _ c.args.self.now c.loop-next.self before.on before.there

pub adopt_and_keep-requires-clause-meets : goal.adopt_and_keep-requires-clause-meets
adopt_and_keep-requires-clause-meets c =
    let some = c.requires.meets in
    record { past = some.past; meets = c.loop-next.invariant.meets some.past some.meets }

pub adopt_and_keep-requires-clause-next : goal.adopt_and_keep-requires-clause-next
adopt_and_keep-requires-clause-next c =
    let next = c.in-Some.ensures in
    let most = next.most in
    record { state = next.state; later = next.later; most = omega (arith, most, c.requires.limit); short = next.short }

pub loop-next-preserved : goal.loop-next-preserved
loop-next-preserved c =
    let before = c.loop-next.invariant in
    let next = c.in-Some.ensures in
    let most = next.most in
    let later = next.later in
    let there = c.in_ok-adopt_and_keep.ensures.arrives in
    let turn = there.turn in
    let some = c.requires.meets in
    let first = (before.meets some.past some.meets).turn in
    record {
      meets = λ p meets. c.in_ok-adopt_and_keep.ensures.meets p (before.meets p meets);
      there = arrives_on _ _ c.args.self.now c.loop-next.self c.adopt_and_keep.new.self before.there (arrives_where _ _ _ there) (omega (arith, turn, later, first));
      on = advances_on _ _ _ _ c.args.self.now c.loop-next.self c.adopt_and_keep.new.self before.on before.there
          (advances_further _ _ _ c.loop-next.self c.adopt_and_keep.new.self c.adopt_and_keep.ensures.advances most);
    }

pub returns-in_err-adopt_and_keep-clause-kept : goal.returns-in_err-adopt_and_keep-clause-kept
returns-in_err-adopt_and_keep-clause-kept c = λ p meets. c.adopt_and_keep.ensures.kept p (c.loop-next.invariant.meets p meets)

pub returns-in_err-adopt_and_keep-clause-advances : goal.returns-in_err-adopt_and_keep-clause-advances
returns-in_err-adopt_and_keep-clause-advances c =
    let before = c.loop-next.invariant in
    advances_on _ _ _ _ c.args.self.now c.loop-next.self c.adopt_and_keep.new.self before.on before.there
    (advances_further _ _ _ c.loop-next.self c.adopt_and_keep.new.self c.adopt_and_keep.ensures.advances c.in-Some.ensures.most)

pub returns-clause-kept : goal.returns-clause-kept
returns-clause-kept c = λ p meets. kept_of_way p c.loop-next.self (c.loop-next.invariant.meets p meets).way

pub returns-clause-way : goal.returns-clause-way
returns-clause-way c = λ p meets. (c.loop-next.invariant.meets p meets).way
