use Rattle.pdp_made.specs.EffectRows.{mov_cells, tst_cells}
use Rattle.pdp_moves.proofs.execute_moves.execute_moves.Goals as goal

pub returns-in-Move : goal.returns-in-Move
returns-in-Move g c = λ p. rw c.in-Move.is (c.effect.ensures (mov_cells c.in-Move.size) c.of_mov.ensures)

pub returns-in-Test : goal.returns-in-Test
returns-in-Test g c = λ p. rw c.in-Test.is (c.effect-in-Test.ensures (tst_cells c.in-Test.size) c.of_tst.ensures)
