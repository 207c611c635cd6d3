use Rattle.std.proofs.Common.{◌≡◌, ◌/◌, replicate, true, rules}
use Rattle.pdp_store.proofs.PagedFields.{new_view}
use Rattle.pdp_store.proofs.paged_store.Paged.new.Goals as goal

pub returns : goal.returns
returns c =
    let marked : c.in_ok-written.written.items ≡ replicate (c.args.len / 256) true = search rules in
    let zeros : c.in_ok-words.words.items ≡ replicate c.args.len 0 = search rules in
    new_view c.in_ok-words.words.items c.in_ok-stamps.stamps.items c.in_ok-bases.bases.items c.in_ok-written.written.items c.in_ok-touches.touches c.args.len c.args.stamped
    c.in_ok-touches.ensures zeros c.in_ok-stamps.ensures c.in_ok-bases.ensures marked
