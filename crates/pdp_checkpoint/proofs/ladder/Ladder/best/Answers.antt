use Rattle.pdp_checkpoint.specs.Ladder.{LadderData}
use Rattle.pdp_checkpoint.proofs.Checkpoints.{IsBest, is_best}
use Rattle.pdp_checkpoint.proofs.ladder.Ladder.best.Goals as goal

best : (c : goal.After-index) → IsBest c.args.self.now c.args.turn c.index.result.now
best c =
    let l : LadderData = record { kept = c.self.inside.kept.items; stride = c.self.inside.stride; near = c.self.inside.near.items; formers = c.self.inside.formers.items } in
    rw (← c.self.view_is) (is_best l c.args.turn c.index.result.now c.self.invariant.checkpoints cc)

pub returns-clause-turn : goal.returns-clause-turn
returns-clause-turn c = (best c).turn_is

pub returns-clause-below : goal.returns-clause-below
returns-clause-below c = (best c).below

pub returns-clause-near : goal.returns-clause-near
returns-clause-near c = (best c).near

pub returns-clause-last : goal.returns-clause-last
returns-clause-last c = (best c).last

pub returns-clause-greatest : goal.returns-clause-greatest
returns-clause-greatest c = (best c).greatest

pub returns-clause-checkpoints : goal.returns-clause-checkpoints
returns-clause-checkpoints c = rw (← c.self.view_is) c.self.invariant.checkpoints
