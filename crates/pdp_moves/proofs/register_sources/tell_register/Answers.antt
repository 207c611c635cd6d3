use Rattle.std.proofs.Common.{◌∙◌, ◌++◌, ap, refl}
use Rattle.pdp_made.specs.Cells.{RegisterByte}
use Rattle.pdp_moves.specs.Built.{place_moves}
use Rattle.pdp_moves.specs.CellNames.{named_moves}
use Rattle.pdp_moves.proofs.register_sources.tell_register.Goals as goal

pub returns-in-Some-clause-moves : goal.returns-in-Some-clause-moves
returns-in-Some-clause-moves c = λ halves are.
    c.tell_halves.ensures.moves (λ half. RegisterByte c.in-Some.place half) halves refl refl are
    ∙ ap (λ place. named_moves c.args.moves.now.items ++ place_moves place halves) c.in-Some.ensures
