use Rattle.std.proofs.Common.{ap, arith}
use Rattle.pdp_replay.specs.declared.run.kept_run.KeptRun.{KeptRun}
use Rattle.pdp_replay.proofs.run.Coming.{advances_further, advances_near, arrives_near, arrives_where}
use Rattle.pdp_replay.proofs.run.UnderWay.{kept_of_way}
use Rattle.pdp_replay.proofs.run.kept_run.KeptRun.part.Goals as goal

pub returns-in_err-leg-clause-advances : goal.returns-in_err-leg-clause-advances
returns-in_err-leg-clause-advances c =
    advances_further _ _ _ c.args.self.now c.leg.new.self c.leg.ensures.advances (omega (arith, c.meeting-meeting.ensures.most, c.next_pause-pause.ensures.most))

pub returns-clause-kept : goal.returns-clause-kept
returns-clause-kept c = λ p same on. kept_of_way p _ (c.keep_near.ensures.way p (c.in_ok-leg.ensures.way p same on))

pub returns-clause-way : goal.returns-clause-way
returns-clause-way c = λ p same on. c.keep_near.ensures.way p (c.in_ok-leg.ensures.way p same on)

pub returns-clause-on : goal.returns-clause-on
returns-clause-on c =
    let turn = ap (λ (r : KeptRun). r.machine.state.turn) c.keep_near.ensures.same in
    let on = c.in_ok-leg.ensures.on in
    omega (arith, turn, on)

pub returns-clause-arrives : goal.returns-clause-arrives
returns-clause-arrives c =
    arrives_where _ c.args.self.now _
    (arrives_near _ _ c.args.self.now c.leg.new.self _ c.keep_near.ensures.same c.in_ok-leg.ensures.arrives)

pub returns-clause-advances : goal.returns-clause-advances
returns-clause-advances c =
    advances_near _ _ _ c.args.self.now c.leg.new.self _ c.keep_near.ensures.same
    (advances_further _ _ _ c.args.self.now c.leg.new.self c.leg.ensures.advances (omega (arith, c.meeting-meeting.ensures.most, c.next_pause-pause.ensures.most)))
