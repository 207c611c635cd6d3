use Rattle.std.proofs.Common.{refl}
use Rattle.pdp_store.proofs.BlankDrives.{blank-fields, blank-value}
use Rattle.pdp_store.proofs.paged_drive.PagedDrive.blank.Goals as goal

pub invariant_of-result : goal.invariant_of-result
invariant_of-result c =
    blank-fields _ _ _ _ c.args.len (rw c.in_ok-pages.ensures.ok c.in_ok-list.ensures) c.requires
    (c.in_ok-backings.ensures.items_if_clones_equal (λ y same. same)) (c.in_ok-own.ensures.items_if_clones_equal (λ y same. same))

pub returns : goal.returns
returns c =
    blank-value _ _ _ _ _ c.args.len (rw c.in_ok-pages.ensures.ok c.in_ok-list.ensures) refl c.requires
    (c.in_ok-backings.ensures.items_if_clones_equal (λ y same. same)) (c.in_ok-own.ensures.items_if_clones_equal (λ y same. same))
    c.in_ok-touches.ensures
