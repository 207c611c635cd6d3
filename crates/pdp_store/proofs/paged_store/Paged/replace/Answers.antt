use Rattle.std.proofs.Common.{◌∙◌, ◌/◌, None, slice_set, ap}
use Rattle.pdp_store.specs.Pages.{PagedStored}
use Rattle.pdp_store.proofs.PagedFields.{bases_of-marked, written_fields}
use Rattle.pdp_store.proofs.paged_store.Paged.replace.Goals as goal

pub invariant_of-self : goal.invariant_of-self
invariant_of-self c =
    (rw c.put_last.ensures (written_fields c.self.inside.words.items c.self.inside.stamps.items c.self.inside.bases.items c.self.inside.written.items c.args.i c.args.w c.args.last c.self.invariant.0), c.self.invariant.1)

pub returns-clause-bases : goal.returns-clause-bases
returns-clause-bases c =
    bases_of-marked c.self.inside.written.items c.self.inside.bases.items (c.args.i / 256)
    ∙ ap (λ (s : PagedStored). slice_set s.bases (c.args.i / 256) None) c.self.view_is
