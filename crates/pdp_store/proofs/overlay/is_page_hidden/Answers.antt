use Rattle.std.proofs.Common.{ap, arith}
use Rattle.pdp_store.specs.Pages.{page_stamps}
use Rattle.pdp_store.specs.declared.page.Page.{Page}
use Rattle.pdp_store.proofs.LatestTurns.{early_stamps}
use Rattle.pdp_store.proofs.overlay.is_page_hidden.Goals as goal

-- src/overlay.rt
pub returns-then-deref-turn : goal.returns-then-deref-turn
returns-then-deref-turn c =
    let late = c.args.page.now.value.late in
    let here = ap (λ (p : Page). p.latest) c.deref.ensures in
    λ yes. early_stamps c.args.turn c.args.under.now (page_stamps c.args.page.now) c.requires (omega (arith, late, here, c.if-deref-turn.true))
