use Rattle.pdp_checkpoint.proofs.Bounds.{few_if_none, few_if_same}
use Rattle.pdp_checkpoint.proofs.Checkpoints.{checkpoints_beside}
use Rattle.pdp_checkpoint.proofs.ladder.Ladder.take_formers.Goals as goal

pub invariant_of-self : goal.invariant_of-self
invariant_of-self c = record {
  checkpoints = checkpoints_beside _ c.self.inside.near.items _ c.self.invariant.checkpoints;
  near = c.self.invariant.near;
  formers = few_if_none _ (cc);
}

pub returns-clause-few : goal.returns-clause-few
returns-clause-few c = few_if_same _ _ (cc) c.self.invariant.formers
