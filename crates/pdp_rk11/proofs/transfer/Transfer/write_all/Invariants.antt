-- the words moved so far are on the drive, without stamps
use Rattle.std.proofs.Common.{◌≡◌, None, slice_index}
use Rattle.pdp_rk11.specs.Moves.{moved_items}
use Rattle.pdp_rk11.specs.Handbook.Transfer.{core_word}
use Rattle.pdp_rk11.proofs.transfer.Transfer.write_all.Given as goal

abbrev pub invariant-loop-i : goal.invariant-loop-i
invariant-loop-i g l = record {
  words : g.D.Store.words l.disk
      ≡ moved_items l.disk_start l.i (λ i. slice_index (g.S.Store.words l.core) (core_word l.self i)) (g.D.Store.words l.initial.disk);
  stamps : g.D.Store.stamps l.disk ≡ moved_items l.disk_start l.i (λ i. None) (g.D.Store.stamps l.initial.disk);
  first_touches : g.D.Store.first_touches l.disk ≡ g.D.Store.first_touches l.initial.disk;
}
