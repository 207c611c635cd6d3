use Rattle.pdp_replay.proofs.run.OnWay.{near_kept, on_way_kept}
use Rattle.pdp_replay.proofs.run.kept_run.KeptRun.keep_between.Goals as goal

pub returns-then-closest-turn-clause-same : goal.returns-then-closest-turn-clause-same
returns-then-closest-turn-clause-same c =
    let taken = c.take_near.ensures in
    near_kept c.args.self.now _ _ c.take_near.result taken.machine taken.kept taken.refused

pub returns-then-closest-turn-clause-way : goal.returns-then-closest-turn-clause-way
returns-then-closest-turn-clause-way c = λ p on.
    let taken = c.take_near.ensures in
    on_way_kept p c.args.self.now _ _ c.take_near.result taken.machine taken.kept taken.refused on
