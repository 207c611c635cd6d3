use Rattle.pdp_replay.proofs.run.Coming.{advances_near, arrives_near}
use Rattle.pdp_replay.proofs.run.FormerRuns.{meets_near}
use Rattle.pdp_replay.proofs.run.UnderWay.{kept_of_way}
use Rattle.pdp_replay.proofs.run.kept_run.KeptRun.adopt_and_keep.Goals as goal

pub returns-clause-kept : goal.returns-clause-kept
returns-clause-kept c = λ p meets. kept_of_way p _ (c.keep_between.ensures.way p (c.in_ok-adopt.ensures.meets p meets).way)

pub returns-clause-meets : goal.returns-clause-meets
returns-clause-meets c = λ p meets.
    let on = c.in_ok-adopt.ensures.meets p meets in
    meets_near p c.args.former.now c.args.next.now _ c.adopt.new.self _ c.keep_between.ensures.same (c.keep_between.ensures.way p on.way) on

pub returns-clause-arrives : goal.returns-clause-arrives
returns-clause-arrives c =
    arrives_near _ _ c.args.self.now c.adopt.new.self _ c.keep_between.ensures.same c.in_ok-adopt.ensures.arrives

pub returns-clause-advances : goal.returns-clause-advances
returns-clause-advances c =
    advances_near _ _ _ c.args.self.now c.adopt.new.self _ c.keep_between.ensures.same c.adopt.ensures.advances
