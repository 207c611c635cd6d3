use Rattle.std.proofs.Common.{sym, subst}
use Rattle.pdp_operand.specs.Phases.Phase.{state_of}
use Rattle.pdp_made.specs.OperandRows.{changed_by_write, halves_of_operand}
use Rattle.pdp_steps.specs.Steps.{latch_of}
use Rattle.pdp_moves.specs.Moves.{AreMoves}
use Rattle.pdp_moves.proofs.WriteMoves.{writes_move}
use Rattle.pdp_moves.proofs.operand_moves.operand_moves.Goals as goal

pub returns-in-Read : goal.returns-in-Read
returns-in-Read g c = λ p. rw c.in-Read.is (c.value_moves.ensures
    (halves_of_operand c.in-Read.size c.args.latch.now.place (state_of p c.args.bus.now (latch_of c.args.latch.now)))
    (c.operand.ensures p (latch_of c.args.latch.now)))

pub returns-in-ReadBeforeWrite : goal.returns-in-ReadBeforeWrite
returns-in-ReadBeforeWrite g c = λ p. rw c.in-ReadBeforeWrite.is (c.value_moves-in-ReadBeforeWrite.ensures
    (halves_of_operand c.in-ReadBeforeWrite.size c.args.latch.now.place (state_of p c.args.bus.now (latch_of c.args.latch.now)))
    (c.operand-in-ReadBeforeWrite.ensures p (latch_of c.args.latch.now)))

pub returns-in-Write : goal.returns-in-Write
returns-in-Write g c = λ p. rw c.in-Write.is
    (let s = state_of p c.args.bus.now (latch_of c.args.latch.now) in
    subst (λ moves. AreMoves (changed_by_write c.in-Write.fill c.args.latch.now.place s) moves) (sym c.write.ensures)
    (writes_move c.in-Write.fill c.args.latch.now.place s))
