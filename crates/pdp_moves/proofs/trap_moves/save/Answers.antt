use Rattle.std.proofs.Common.{sym, subst}
use Rattle.pdp_word.specs.declared.size.Size.TheVariants.{Word}
use Rattle.pdp_kt11.specs.declared.mode.Mode.TheVariants.{Kernel}
use Rattle.pdp_made.specs.ReferenceRows.{changed_by_reference}
use Rattle.pdp_moves.specs.Built.{halves_written}
use Rattle.pdp_moves.specs.Moves.{AreMoves}
use Rattle.pdp_moves.proofs.WriteMoves.{references_move}
use Rattle.pdp_moves.proofs.trap_moves.save.Goals as goal

pub returns : goal.returns
returns g c = subst (λ moves. AreMoves (changed_by_reference Word Kernel c.args.address c.args.bus.now (halves_written c.args.written)) moves)
    (sym c.moves.ensures) (references_move Word Kernel c.args.address c.args.bus.now (halves_written c.args.written))
