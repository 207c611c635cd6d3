use Rattle.std.proofs.Common.{◌∙◌, ap, arith}
use Rattle.pdp_store.specs.declared.page.Page.{Page}
use Rattle.pdp_store.specs.DriveBackings.{with_part}
use Rattle.pdp_store.proofs.DriveTaken.{copied-more, copied-none, copied-backings, copied-words}
use Rattle.pdp_store.proofs.paged_drive.shared_pages.copy_each.Goals as goal

pub loop-place-init : goal.loop-place-init
loop-place-init c = copied-none c.args.pages.now c.args.own.now.items c.args.backings.now.items c.requires.own c.requires.backings

pub put_part-requires-clause-place : goal.put_part-requires-clause-place
put_part-requires-clause-place c = omega (arith, c.loop-place.invariant.size, c.loop-place-test.true)

pub loop-place-preserved : goal.loop-place-preserved
loop-place-preserved c =
    let k = c.loop-place.place in
    let page = c.index-pages-place.result in
    let words = c.deref-in-loop-place.ensures.value ∙ ap (λ (p : Page). p.words.items) c.deref.ensures in
    let put = c.put_part.ensures ∙ ap (λ xs. with_part k xs c.loop-place.own.items) words in
    rw c.deref-in-loop-place-2.ensures
    (copied-more k c.args.pages.now c.loop-place.own.items c.put_part.new.own.items c.loop-place.backings.items page c.loop-place.invariant c.loop-place-test.true c.index-pages-place.is put)

pub returns-clause-own : goal.returns-clause-own
returns-clause-own c = copied-words c.loop-place.place c.args.pages.now _ _ c.loop-place.invariant c.loop-place-test.false

pub returns-clause-backings : goal.returns-clause-backings
returns-clause-backings c = copied-backings c.loop-place.place c.args.pages.now _ _ c.loop-place.invariant c.loop-place-test.false
