use Rattle.std.proofs.Common.{None, arith}
use Rattle.pdp_rk11.specs.Handbook.Transfer.{disk_word, rest_of_sector}
use Rattle.pdp_rk11.proofs.Fill.{moved_as_far, moved_as_far_or_none}
use Rattle.pdp_rk11.proofs.transfer.Transfer.fill_sector.Goals as goal

-- src/transfer.rt
pub returns-clause-words : goal.returns-clause-words
returns-clause-words g c =
    let t = c.args.self in
    moved_as_far (disk_word t t.count) (rest_of_sector t) c.loop-i.i (λ i. 0) (g.D.Store.words c.args.disk.now)
    (g.D.Store.words c.loop-i.disk) c.loop-i.invariant.words (omega arith)

pub returns-clause-stamps : goal.returns-clause-stamps
returns-clause-stamps g c =
    let t = c.args.self in
    moved_as_far_or_none (disk_word t t.count) (rest_of_sector t) c.loop-i.i (λ i. None) (g.D.Store.stamps c.args.disk.now)
    (g.D.Store.stamps c.loop-i.disk) (g.D.Store.words c.args.disk.now) c.loop-i.invariant.stamps (omega arith)
    c.len.ensures.stamps
