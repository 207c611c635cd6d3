use Rattle.pdp_checkpoint.proofs.ladder.Ladder.next.Goals as goal

pub returns-clause-checkpoints : goal.returns-clause-checkpoints
returns-clause-checkpoints c = rw (← c.self.view_is) c.self.invariant.checkpoints
