use Rattle.pdp_moves.proofs.step_moves.moves_of_step.Goals as goal

pub returns-in-Operand : goal.returns-in-Operand
returns-in-Operand g c = λ p. rw c.in-Operand.is (c.operand_moves.ensures p)

pub returns-in-Execute : goal.returns-in-Execute
returns-in-Execute g c = λ p. rw c.in-Execute.is (c.execute_moves.ensures p)

pub returns-in-Extended : goal.returns-in-Extended
returns-in-Extended g c = λ p. rw c.in-Extended.is (c.extended_moves.ensures p c.args.latch.now)

pub returns-in-Control : goal.returns-in-Control
returns-in-Control g c = λ p. rw c.in-Control.is (c.control_moves.ensures p c.args.latch.now)

pub returns-in-Jump : goal.returns-in-Jump
returns-in-Jump g c = λ p. rw c.in-Jump.is (c.jump_moves.ensures p c.args.latch.now)

pub returns-in-Trap : goal.returns-in-Trap
returns-in-Trap g c = λ p. rw c.in-Trap.is (c.trap_moves.ensures p)
