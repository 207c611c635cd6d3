use Rattle.std.proofs.Common.{rules, ◌≡◌, ◌∙◌, ◌<◌, ap, arith, get_or, length, refl, sym}
use Rattle.pdp_store.specs.FirstTouches.{first_touches_before}
use Rattle.pdp_store.specs.Overlays.{touches_over}
use Rattle.pdp_store.proofs.TouchOverlays.{length-laid_touches, page_comes_to, page_stays_more, pages_all_stay}
use Rattle.pdp_store.proofs.touches.StoreTouches.has_all_of.Goals as goal

pub returns-then-touch_over-first : goal.returns-then-touch_over-first
returns-then-touch_over-first c =
    let first = c.index-first.result.now in
    let end : c.len-page-end.result ≡ length c.args.self.now = search rules in
    let here : first ≡ get_or c.args.self.now c.loop-page.page first = c.index-first.ensures ∙ ap (λ xs. get_or xs c.loop-page.page first) c.self.view_is in
    let comes = page_comes_to c.args.turn c.args.turn c.args.self.now c.args.over.now c.loop-page.page _ first (omega (arith, c.loop-page-test.true, end)) c.requires
    c.kept_before.ensures here in (
      λ wrong. absurd (cc),
      λ same. absurd (c.if-touch_over-first.true (c.touch_over.ensures ∙ sym comes ∙ ap (λ xs. get_or xs c.loop-page.page first) same ∙ sym here)),
    )

pub loop-page-preserved : goal.loop-page-preserved
loop-page-preserved c =
    let first = c.index-first.result.now in
    let end : c.len-page-end.result ≡ length c.args.self.now = search rules in
    let here : first ≡ get_or c.args.self.now c.loop-page.page first = c.index-first.ensures ∙ ap (λ xs. get_or xs c.loop-page.page first) c.self.view_is in
    let below : c.loop-page.page < length c.args.self.now = omega (arith, c.loop-page-test.true, end) in
    let comes = page_comes_to c.args.turn c.args.turn c.args.self.now c.args.over.now c.loop-page.page _ first below c.requires c.kept_before.ensures here in
    page_stays_more c.args.turn c.args.self.now (touches_over c.args.turn c.args.self.now (first_touches_before c.args.turn c.args.over.now)) c.loop-page.page first below
    (length-laid_touches c.args.turn c.args.turn c.args.self.now c.args.over.now c.requires) c.loop-page.invariant
    (comes ∙ sym c.touch_over.ensures ∙ c.if-touch_over-first.false) here

pub returns : goal.returns
returns c =
    let end : c.len-page-end.result ≡ length c.args.self.now = search rules in (
      λ yes. pages_all_stay c.args.self.now (touches_over c.args.turn c.args.self.now (first_touches_before c.args.turn c.args.over.now)) c.loop-page.page
          (omega (arith, c.loop-page-test.false, end)) (length-laid_touches c.args.turn c.args.turn c.args.self.now c.args.over.now c.requires) c.loop-page.invariant,
      λ same. refl,
    )
