use Rattle.std.proofs.Common.{subst, sym}
use Rattle.std.proofs.lemmas.Result.{on_ok_weaker}
use Rattle.pdp_checkpoint.specs.Ladder.{LadderData}
use Rattle.pdp_replay.specs.Run.FormerRuns.{MeetsFormer}
use Rattle.pdp_replay.specs.Run.KeptRuns.{Advances}
use Rattle.pdp_replay.proofs.run.kept_run.KeptRun.follow.Goals as goal

pub returns-clause-way : goal.returns-clause-way
returns-clause-way c =
    on_ok_weaker c.go_on.result
    (λ way p is on. way p
    (subst (λ (l : LadderData). MeetsFormer p c.args.former.now c.in-Some.there.now (record c.args.self.now { ladder = l })) (sym c.meet.ensures)
    (c.meets.ensures c.if-not-meets.false p is on)))
    c.go_on.ensures.way

pub returns-clause-advances : goal.returns-clause-advances
returns-clause-advances c =
    subst (λ (l : LadderData). Advances c.args.self.now.machine.state.turn c.args.to (record c.args.self.now { ladder = l }) c.go_on.new.self) c.meet.ensures
    c.go_on.ensures.advances
