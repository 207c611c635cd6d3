use Rattle.std.proofs.Common.{rules, sym, ◌∙◌}
use Rattle.pdp_store.specs.Pages.{PagedWords}
use Rattle.pdp_unibus.proofs.SavedDrives.{blank_sizes, no_stamps}
use Rattle.pdp_unibus.proofs.save.saved_bus.Bus+Paged+PagedDrive.load_devices.Goals as goal

pub load_each-requires-clause-stamps : goal.load_each-requires-clause-stamps
load_each-requires-clause-stamps c =
    blank_sizes (λ (d : PagedWords). d.words) c.saved.inside.drives.items c.self.inside.drives.items c.saved.invariant.0 (search rules)
    ∙ sym (no_stamps c.self.inside.drives.items)
