use Rattle.std.proofs.Common.{rules, ◌≡◌, ◌∙◌, ap, length}
use Rattle.pdp_store.proofs.TouchOverlays.{length-laid_touches}
use Rattle.pdp_store.proofs.paged_store.PagedPaging.lay_touches.Goals as goal

pub invariant_of-self : goal.invariant_of-self
invariant_of-self c =
    let same : length c.args.over.now ≡ length c.self.inside.touches = search rules in
    let laid = length-laid_touches c.args.from c.args.to c.self.inside.touches c.args.over.now same in
    let is : length c.lay_over.new.self ≡ length c.self.inside.touches = ap length c.lay_over.ensures ∙ laid in
    (c.self.invariant.0, is ∙ c.self.invariant.1)
