use Rattle.std.proofs.Common.{arith, subst, sym}
use Rattle.pdp_replay.specs.Run.Checkpoints.{IsFormerOf}
use Rattle.pdp_replay.proofs.run.Coming.{advances_nowhere, advances_on, arrives_nowhere, arrives_on, can_go_on}
use Rattle.pdp_replay.proofs.run.UnderWay.{kept_of_way}
use Rattle.pdp_replay.proofs.run.kept_run.KeptRun.follow_each.Goals as goal

pub loop-former-init : goal.loop-former-init
loop-former-init c = record {
  way = λ p formers on. on;
  there = arrives_nowhere c.args.self.now c.requires.ready;
  on = advances_nowhere c.args.self.now c.args.to c.requires.ready c.requires.forward;
}

pub follow-requires-clause-ready : goal.follow-requires-clause-ready
follow-requires-clause-ready c =
    let before = c.loop-former.invariant in
    can_go_on _ _ _ c.args.self.now c.loop-former.self before.on before.there

pub follow-requires-clause-run : goal.follow-requires-clause-run
follow-requires-clause-run c =
    let run = c.requires.run in
    record { past = run.past; former = subst (IsFormerOf run.past) (sym c.former-item.is) (run.formers c.loop-former.former-index c.former-item.result c.loop-former-test.true); way = c.loop-former.invariant.way run.past run.formers run.way }

pub follow-requires-clause-forward : goal.follow-requires-clause-forward
follow-requires-clause-forward c = c.loop-former.invariant.on.turn_most

pub loop-former-preserved : goal.loop-former-preserved
loop-former-preserved c =
    let before = c.loop-former.invariant in
    let counted = c.follow.ensures.advances.counted in
    let ran = c.follow.ensures.advances.ran in
    record {
      way = λ p formers on. c.in_ok-follow.ensures.way p (subst (IsFormerOf p) (sym c.former-item.is) (formers c.loop-former.former-index c.former-item.result c.loop-former-test.true)) (before.way p formers on);
      there = arrives_on _ _ c.args.self.now c.loop-former.self c.follow.new.self before.there c.in_ok-follow.ensures.arrives (omega (arith, counted, ran));
      on = advances_on _ _ _ _ c.args.self.now c.loop-former.self c.follow.new.self before.on before.there c.follow.ensures.advances;
    }

pub returns-in_err-follow-clause-kept : goal.returns-in_err-follow-clause-kept
returns-in_err-follow-clause-kept c = λ p formers on. c.follow.ensures.kept p (subst (IsFormerOf p) (sym c.former-item.is) (formers c.loop-former.former-index c.former-item.result c.loop-former-test.true)) (c.loop-former.invariant.way p formers on)

pub returns-in_err-follow-clause-advances : goal.returns-in_err-follow-clause-advances
returns-in_err-follow-clause-advances c =
    let before = c.loop-former.invariant in
    advances_on _ _ _ _ c.args.self.now c.loop-former.self c.follow.new.self before.on before.there c.follow.ensures.advances

pub returns-clause-kept : goal.returns-clause-kept
returns-clause-kept c = λ p formers on. kept_of_way p c.loop-former.self (c.loop-former.invariant.way p formers on)
