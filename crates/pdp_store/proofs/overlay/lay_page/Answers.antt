use Rattle.std.proofs.Common.{◌∙◌, ap, arith, length}
use Rattle.pdp_store.specs.Pages.{page_stamps}
use Rattle.pdp_store.specs.declared.page.Page.{Page}
use Rattle.pdp_store.proofs.LatestTurns.{laid_past}
use Rattle.pdp_store.proofs.Overlays.{length-laid_to}
use Rattle.pdp_store.proofs.overlay.lay_page.Goals as goal

-- src/overlay.rt
pub returns-then-deref-turn-clause-laid : goal.returns-then-deref-turn-clause-laid
returns-then-deref-turn-clause-laid c = λ under all same part before.
    let page = c.args.page.now in
    let late = page.value.late in
    let here = ap (λ (p : Page). p.latest) c.deref.ensures in
    let size = length-laid_to c.args.start c.args.turn under all c.args.stamps.now same before in
    before ∙ laid_past c.args.turn c.args.start (length (page_stamps page)) under all (page_stamps page) same
    (omega (arith, late, here, c.if-deref-turn.true)) part (omega (arith, size, c.requires))
