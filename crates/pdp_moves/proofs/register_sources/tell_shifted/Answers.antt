use Rattle.std.proofs.Common.{◌∙◌, ◌++◌, ap, append_assoc}
use Rattle.pdp_made.specs.Cells.{CodeDue}
use Rattle.pdp_made.specs.ReferenceRows.{of_each}
use Rattle.pdp_moves.specs.Built.{code_moves, register_moves}
use Rattle.pdp_moves.specs.CellNames.{named_cells, named_moves}
use Rattle.pdp_moves.proofs.register_sources.tell_shifted.Goals as goal

pub returns : goal.returns
returns c =
    let from = named_cells c.args.from.now.items in
    c.tell_codes_due.ensures.moves (λ _. from) (record {
      negative = ap named_cells c.copied-3.ensures;
      zero = ap named_cells c.copied-4.ensures;
      overflow = ap named_cells c.copied-5.ensures;
      carry = ap named_cells c.copied-6.ensures;
    })
    ∙ ap (λ xs. xs ++ code_moves CodeDue (λ _. from)) (c.tell_register.ensures.moves (of_each from) (record {
      low = ap named_cells c.copied.ensures;
      high = ap named_cells c.copied-2.ensures;
    }))
    ∙ append_assoc (named_moves c.args.moves.now.items) (register_moves c.args.id (of_each from)) (code_moves CodeDue (λ _. from))
