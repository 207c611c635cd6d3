-- the words in the pages so far are touched
use Rattle.std.proofs.Common.{◌≡◌, ◌-◌, ◌*◌, ◌/◌, ◌≤◌, min}
use Rattle.pdp_rk11.specs.Touched.{run_touched, after_steps}
use Rattle.pdp_rk11.proofs.transfer.touch_run.Given as goal

abbrev pub invariant-loop-page : goal.invariant-loop-page
invariant-loop-page g l = record {
  from : l.start / 256 ≤ l.page;
  words : g.S.Store.words l.store ≡ g.S.Store.words l.initial.store;
  stamps : g.S.Store.stamps l.store ≡ g.S.Store.stamps l.initial.store;
  log : g.S.Store.log l.store ≡ g.S.Store.log l.initial.store;
  first_touches : g.S.Store.first_touches l.store
      ≡ after_steps (run_touched l.start l.turn) (min l.count (l.page * 256 - l.start)) (g.S.Store.first_touches l.initial.store);
}
