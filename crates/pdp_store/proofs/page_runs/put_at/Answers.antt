use Rattle.std.proofs.Common.{rules, ◌≡◌, ◌+◌, ◌-◌, length, arith, refl}
use Rattle.pdp_store.specs.Pieces.{with_items_at}
use Rattle.pdp_store.proofs.page_runs.put_at.Goals as goal

pub returns-clause-items : goal.returns-clause-items
unfolding with_items_at
returns-clause-items g c =
    let size : c.args.at + length c.args.part.now - c.args.at ≡ length c.args.part.now = omega arith in
    let moved : c.copy_from_slice.new.self ≡ c.args.part.now = search rules in
    rw (size, moved) refl
