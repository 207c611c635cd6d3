use Rattle.std.proofs.Common.{◌≡◌, refl, [], ◌∷◌, ◌++◌, ◌∙◌, ap}
use Rattle.pdp_checkpoint.proofs.Bounds.{bounded_first}
use Rattle.pdp_checkpoint.specs.declared.checkpoint.Checkpoint.{Checkpoint}
use Rattle.pdp_checkpoint.proofs.Checkpoints.{first_checkpoint}
use Rattle.pdp_checkpoint.proofs.ladder.Ladder.new.Goals as goal

pub invariant_of-result : goal.invariant_of-result
invariant_of-result c =
    let first : Checkpoint = record { turn = 0; saved = c.in_ok-saved.saved } in
    let is : c.push.new.self.items ≡ first ∷ [] = c.in_ok-push.ensures.items ∙ ap (λ xs. xs ++ first ∷ []) c.new-kept.ensures.items in
    bounded_first _ (rw is (first_checkpoint first c.args.stride _ _ refl c.requires.some c.requires.widest)) (cc) (cc)

pub returns-clause-checkpoints : goal.returns-clause-checkpoints
returns-clause-checkpoints c = (invariant_of-result c).checkpoints
