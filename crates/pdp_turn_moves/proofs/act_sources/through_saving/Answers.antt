use Rattle.std.proofs.Common.{◌≡◌, ◌∙◌, ◌+◌, ◌<◌, ap, sym, drop, get_or, length, arith}
use Rattle.std.proofs.lemmas.List.{drop-drop, drop-set-lt, length-set}
use Rattle.pdp_made.specs.CourseRows.{of_saved_codes}
use Rattle.pdp_moves.specs.CellNames.{named_cell, named_cells}
use Rattle.pdp_turn_moves.proofs.ActTold.{each_itself, same_there, saved_more}
use Rattle.pdp_turn_moves.proofs.act_sources.through_saving.Goals as goal

pub returns-then-not-saves : goal.returns-then-not-saves
returns-then-not-saves c =
    rw c.if-not-saves.true (sym (each_itself (named_cells c.args.cells.now.items)))

pub loop-index-preserved : goal.loop-index-preserved
loop-index-preserved c =
    let old = c.args.cells.now.items in
    let now = c.loop-index.cells.items in
    let i = c.loop-index.index in
    let before = c.index.result.now in
    let below : i < length now = omega (arith, c.loop-index.cells.ok.0, c.args.cells.now.ok.0, c.loop-index.invariant.count) in
    let same : before ≡ get_or old i before =
    c.index.ensures ∙ same_there old now i before c.loop-index.invariant.rest in
    record {
      changed = saved_more old now i before c.before_saving.result (omega (arith, c.loop-index.invariant.count, below)) c.loop-index.invariant.count
          (ap (λ d. of_saved_codes (named_cell d)) (sym same) ∙ c.before_saving.ensures) c.loop-index.invariant.changed;
      rest = drop-set-lt (i + 1) now i c.before_saving.result (omega arith) ∙ sym (drop-drop 1 i now) ∙ ap (drop 1) c.loop-index.invariant.rest ∙ drop-drop 1 i old;
      count = length-set now i c.before_saving.result ∙ c.loop-index.invariant.count;
    }
