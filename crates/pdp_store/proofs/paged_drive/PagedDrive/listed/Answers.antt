use Rattle.std.proofs.Common.{[], ◌∷◌, ◌++◌, ◌≡◌, ap, arith}
use Rattle.pdp_store.specs.Pages.{PagedWords}
use Rattle.pdp_store.proofs.DriveTaken.{taken-all, taken-more, taken-none}
use Rattle.pdp_store.proofs.paged_drive.PagedDrive.listed.Goals as goal

pub loop-place-init : goal.loop-place-init
loop-place-init c =
    let given = ap (λ (v : PagedWords). v.given) c.self.view_is in
    rw (c.new-list.ensures.items, given) (taken-none c.args.self.now.words c.args.self.now.bases c.args.self.now.given)

pub loop-place-preserved : goal.loop-place-preserved
loop-place-preserved c =
    let items : c.push.new.self.items ≡ c.loop-place.list.items ++ c.in_ok-page.page ∷ [] = c.in_ok-push.ensures.items in
    rw items (taken-more c.loop-place.list.items c.loop-place.given _ c.args.self.now.words c.args.self.now.bases c.args.self.now.given c.loop-place.place c.in_ok-page.page c.loop-place.invariant (omega (arith, c.loop-place-test.true, c.count-place-end.ensures.bases)) c.in_ok-page.ensures c.given_past-given.ensures)

pub returns : goal.returns
returns c =
    taken-all c.loop-place.list.items c.loop-place.given c.args.self.now.words c.args.self.now.bases c.args.self.now.given c.loop-place.place c.loop-place.invariant
    (omega (arith, c.loop-place-test.false, c.count-place-end.ensures.bases)) (omega (arith, c.loop-place-test.false, c.count-place-end.ensures.words))
