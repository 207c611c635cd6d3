use Rattle.std.proofs.Common.{◌≡◌, ◌*◌, ◌+◌, ◌-◌, take, drop, ap, arith}
use Rattle.pdp_store.specs.Pieces.{piece}
use Rattle.pdp_store.proofs.paged_drive.shared_pages.part.Goals as goal

pub returns : goal.returns
unfolding piece
returns c =
    let size : c.args.place * 256 + 256 - c.args.place * 256 ≡ 256 = omega arith in
    ap (λ n. take n (drop (c.args.place * 256) c.args.words.now)) size
