use Rattle.pdp_checkpoint.proofs.ladder.Ladder.stride.Goals as goal

pub returns-clause-checkpoints : goal.returns-clause-checkpoints
returns-clause-checkpoints c = rw (← c.self.view_is) c.self.invariant.checkpoints

pub returns-clause-bounded : goal.returns-clause-bounded
returns-clause-bounded c = rw (← c.self.view_is) c.self.invariant
