use Rattle.std.proofs.Common.{◌∙◌, [], ◌∷◌, refl}
use Rattle.pdp_made.specs.Cells.{CoreByte}
use Rattle.pdp_made.specs.ReferenceRows.{halves_put}
use Rattle.pdp_moves.specs.Built.{halves_written}
use Rattle.pdp_moves.proofs.written_word.WrittenWord.moves_at.Goals as goal

pub returns-in-Core : goal.returns-in-Core
returns-in-Core c =
    c.tell_halves.ensures.moves (λ half. CoreByte c.in-Core.word half)
    (halves_put c.args.size c.args.physical (λ half. CoreByte c.in-Core.word half ∷ []) (halves_written c.args.self)) refl refl
    (record { low = c.put.ensures; high = c.put-in-Core.ensures })
    ∙ rw (c.new-moves.ensures, c.in-Core.is) refl
