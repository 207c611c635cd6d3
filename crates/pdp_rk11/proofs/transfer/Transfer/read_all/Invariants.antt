-- the words moved so far are in core, with their stamps
use Rattle.std.proofs.Common.{◌≡◌, ◌+◌, Some, slice_index}
use Rattle.pdp_rk11.specs.Moves.{moved_items}
use Rattle.pdp_rk11.proofs.transfer.Transfer.read_all.Given as goal

abbrev pub invariant-loop-i : goal.invariant-loop-i
invariant-loop-i g l = record {
  words : g.S.Store.words l.core
      ≡ moved_items l.core_start l.i (λ i. slice_index (g.D.Store.words l.disk) (l.disk_start + i)) (g.S.Store.words l.initial.core);
  stamps : g.S.Store.stamps l.core ≡ moved_items l.core_start l.i (λ i. Some l.stamp) (g.S.Store.stamps l.initial.core);
  log : g.S.Store.log l.core ≡ g.S.Store.log l.initial.core;
  first_touches : g.S.Store.first_touches l.core ≡ g.S.Store.first_touches l.initial.core;
}
