use Rattle.std.proofs.Common.{◌∙◌, None, ap, arith, get_or, refl, sym}
use Rattle.std.proofs.lemmas.List.{get_or_read}
use Rattle.pdp_store.specs.Overlays.{stamp_over}
use Rattle.pdp_store.proofs.Overlays.{all_laid_so, one_laid_more}
use Rattle.pdp_store.proofs.overlay.are_hidden.Goals as goal

pub loop-k-preserved : goal.loop-k-preserved
loop-k-preserved c =
    let turn = c.args.turn in
    let below = c.loop-k-test.true in
    let under = get_or_read c.args.under.now c.loop-k.k c.index-under-k.result below c.index-under-k.is None in
    let over = get_or_read c.args.over.now c.loop-k.k c.index-over-k.result (omega (arith, c.requires, below)) c.index-over-k.is None in
    one_laid_more turn c.loop-k.k c.args.under.now c.args.over.now c.args.under.now None None None below c.requires refl c.loop-k.invariant
    (ap (λ x. stamp_over turn x (get_or c.args.over.now c.loop-k.k None)) (sym under) ∙ ap (stamp_over turn c.index-under-k.result) (sym over) ∙ c.is_hidden.ensures c.if-not-is_hidden.false ∙ under)

pub returns : goal.returns
returns c = λ yes. all_laid_so c.args.turn c.loop-k.k c.args.under.now c.args.over.now c.args.under.now c.loop-k-test.false c.requires refl c.loop-k.invariant
