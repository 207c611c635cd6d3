use Rattle.std.proofs.Common.{◌≡◌, ◌+◌, ◌-◌, ◌*◌, length, arith, refl, sym}
use Rattle.std.proofs.lemmas.Bool.Decides.{nat_tests}
use Rattle.std.proofs.lemmas.List.{nil_from_length}
use Rattle.pdp_store.specs.Pieces.{piece}
use Rattle.pdp_store.proofs.Pages.{piece_of_none}
use Rattle.pdp_store.proofs.page_runs.piece_at.Goals as goal

pub returns-then-is_empty-clause-piece : goal.returns-then-is_empty-clause-piece
returns-then-is_empty-clause-piece g c =
    let none : length c.args.items.now ≡ 0 = grind (arith, nat_tests) in
    rw (nil_from_length c.args.items.now none) (sym (piece_of_none c.args.place))

pub returns-clause-piece : goal.returns-clause-piece
unfolding piece
returns-clause-piece g c =
    let size : c.args.place * 256 + 256 - c.args.place * 256 ≡ 256 = omega arith in
    rw size refl
