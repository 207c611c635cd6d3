use Rattle.std.proofs.Common.{◌≡◌, ◌∙◌, [], ◌∷◌, ◌++◌, ap, sym, true, get_or}
use Rattle.pdp_moves.specs.CellNames.{named_cell, named_cells, named_moves}
use Rattle.pdp_moves.specs.Moves.{is_cell, sources_in}
use Rattle.pdp_turn_moves.proofs.ActTold.{named_append, sources_here, sources_none}
use Rattle.pdp_turn_moves.proofs.act_sources.add_step_sources.Goals as goal

pub returns-then-is_same : goal.returns-then-is_same
returns-then-is_same c =
    let moves = c.as_slice-one-items.result.now in
    let one = c.one-item.result in
    let place = c.loop-one.one-index in
    let same : is_cell (named_cell c.args.cell) (named_cell (get_or moves place one).cell) ≡ true =
    ap (λ m. is_cell (named_cell c.args.cell) (named_cell m.cell)) (sym c.one-item.is) ∙ sym c.is_same.ensures ∙ c.if-is_same.true in
    let here = sources_here moves place one (named_cell c.args.cell) c.loop-one-test.true same in
    let cells : named_cells (get_or moves place one).sources.items ≡ named_cells c.as_slice.result.now = ap (λ m. named_cells m.sources.items) (sym c.one-item.is) ∙ ap named_cells (sym c.as_slice.ensures.value) in
    let whole : named_cells c.as_slice.result.now ≡ sources_in (named_moves c.args.moves.now.items) (named_cell c.args.cell) = sym cells ∙ sym here ∙ c.loop-one.invariant.0 in
    ap named_cells c.in_ok-add_cells.ensures ∙ named_append c.loop-one.sources.items c.as_slice.result.now
    ∙ ap (λ some. named_cells some ++ named_cells c.as_slice.result.now) c.loop-one.invariant.1
    ∙ ap (λ more. named_cells c.args.sources.now.items ++ more) whole

pub returns : goal.returns
returns c =
    let none = sources_none c.as_slice-one-items.result.now c.loop-one.one-index (named_cell c.args.cell) c.loop-one-test.false in
    let itself = named_append c.loop-one.sources.items (c.args.cell ∷ []) in
    let pushed = c.in_ok-push.ensures.items in
    ap named_cells pushed ∙ itself ∙ ap (λ some. named_cells some ++ named_cell c.args.cell ∷ []) c.loop-one.invariant.1
    ∙ ap (λ more. named_cells c.args.sources.now.items ++ more) (sym none ∙ c.loop-one.invariant.0)
