-- whether any word so far differs
use Rattle.std.proofs.Common.{◌≡◌, ◌==◌, not, slice_index}
use Rattle.pdp_rk11.specs.Moves.{any_below}
use Rattle.pdp_rk11.specs.Handbook.Transfer.{core_word, disk_word}
use Rattle.pdp_rk11.proofs.transfer.Transfer.is_different.Given as goal

abbrev pub invariant-loop-i : goal.invariant-loop-i
invariant-loop-i g l =
    l.different
    ≡ any_below l.i (λ i.
    not (slice_index (g.S.Store.words l.core) (core_word l.self i) == slice_index (g.D.Store.words l.disk) (disk_word l.self i)))
