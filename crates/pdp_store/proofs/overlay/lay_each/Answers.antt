use Rattle.std.proofs.Common.{◌≡◌, ◌+◌, ◌∙◌, None, ap, arith, get_or, length, slice_set, subst}
use Rattle.std.proofs.lemmas.List.{get_or_read}
use Rattle.pdp_store.specs.Overlays.{laid_to, stamp_over}
use Rattle.pdp_store.proofs.Overlays.{length-laid_to, one_laid_on}
use Rattle.pdp_store.proofs.overlay.lay_each.Goals as goal

pub loop-k-preserved : goal.loop-k-preserved
loop-k-preserved c = λ under all same part before.
    let size = length-laid_to c.args.start c.args.turn under all c.args.stamps.now same before in
    let at = c.args.start + c.loop-k.k in
    let over = get_or_read c.args.over.now c.loop-k.k c.index-over-k.result c.loop-k-test.true c.index-over-k.is None in
    one_laid_on c.args.turn c.args.start c.loop-k.k under all c.args.over.now c.loop-k.stamps c.lay_one.new.stamps
    (omega (arith, size, c.requires, c.loop-k-test.true)) same (part c.loop-k.k c.loop-k-test.true)
    (c.loop-k.invariant under all same part before)
    (c.lay_one.ensures ∙ ap (λ x. slice_set c.loop-k.stamps at (stamp_over c.args.turn (get_or c.loop-k.stamps at None) x)) over)

pub returns-clause-laid : goal.returns-clause-laid
returns-clause-laid c = λ under all same part before.
    let end : c.loop-k.k ≡ length c.args.over.now = omega arith in
    subst (λ n. c.loop-k.stamps ≡ laid_to (c.args.start + n) c.args.turn under all) end (c.loop-k.invariant under all same part before)
