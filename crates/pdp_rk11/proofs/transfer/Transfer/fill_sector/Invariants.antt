-- the zeros written so far are on the drive, without stamps
use Rattle.std.proofs.Common.{◌≡◌, None}
use Rattle.pdp_rk11.specs.Moves.{moved_items}
use Rattle.pdp_rk11.proofs.transfer.Transfer.fill_sector.Given as goal

abbrev pub invariant-loop-i : goal.invariant-loop-i
invariant-loop-i g l = record {
  words : g.D.Store.words l.disk ≡ moved_items l.start l.i (λ i. 0) (g.D.Store.words l.initial.disk);
  stamps : g.D.Store.stamps l.disk ≡ moved_items l.start l.i (λ i. None) (g.D.Store.stamps l.initial.disk);
  first_touches : g.D.Store.first_touches l.disk ≡ g.D.Store.first_touches l.initial.disk;
}
