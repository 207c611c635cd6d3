use Rattle.std.proofs.Common.{sym, subst}
use Rattle.pdp_word.specs.declared.size.Size.TheVariants.{Word}
use Rattle.pdp_made.specs.ReferenceRows.{changed_by_reference}
use Rattle.pdp_moves.specs.Built.{halves_written}
use Rattle.pdp_moves.specs.Moves.{AreMoves}
use Rattle.pdp_moves.proofs.WriteMoves.{references_move}
use Rattle.pdp_moves.proofs.trap_moves.put_at.Goals as goal

pub returns-in-Mem : goal.returns-in-Mem
returns-in-Mem g c = λ p latch. rw c.in-Mem.is
    (subst (λ moves. AreMoves (changed_by_reference Word c.in-Mem.cell.mode c.in-Mem.cell.address c.args.bus.now (halves_written c.args.written)) moves)
    (sym c.moves.ensures)
    (references_move Word c.in-Mem.cell.mode c.in-Mem.cell.address c.args.bus.now (halves_written c.args.written)))
