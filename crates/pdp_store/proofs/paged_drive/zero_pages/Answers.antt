use Rattle.pdp_store.proofs.BlankDrives.{zeros-more, zeros-none}
use Rattle.pdp_store.proofs.paged_drive.zero_pages.Goals as goal

pub loop-init : goal.loop-init
loop-init c = rw c.in_ok-pages.ensures.items zeros-none

pub loop-preserved : goal.loop-preserved
loop-preserved c =
    rw c.in_ok-push.ensures.items
    (zeros-more c.loop.counter _ c.loop.pages.items c.in_ok-page.page c.in_ok-clone.field-0 c.loop.invariant c.in_ok-page.ensures
    c.next_serial.ensures c.in_ok-clone.ensures.cases)
