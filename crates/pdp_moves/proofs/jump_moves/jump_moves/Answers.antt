use Rattle.pdp_made.specs.ReferenceRows.{of_nothing}
use Rattle.pdp_moves.proofs.jump_moves.jump_moves.Goals as goal

pub returns-in-Aim : goal.returns-in-Aim
returns-in-Aim g c = λ p latch. rw c.in-Aim.is (c.value_moves.ensures of_nothing c.none.ensures)
