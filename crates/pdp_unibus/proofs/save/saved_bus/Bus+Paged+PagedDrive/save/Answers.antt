use Rattle.pdp_unibus.proofs.SavedDrives.{unstamped}
use Rattle.pdp_unibus.proofs.save.saved_bus.Bus+Paged+PagedDrive.save.Goals as goal

pub invariant_of-result : goal.invariant_of-result
invariant_of-result c =
    let core = c.in_ok-core.ensures.taken in (
      unstamped c.in_ok-drives.drives.items c.self.inside.drives.items c.in_ok-drives.ensures.stamps,
      rw (core.words, core.stamps) core.stamped,
    )
