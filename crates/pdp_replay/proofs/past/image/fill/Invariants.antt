use Rattle.std.proofs.Common.{◌≡◌, ℕ, None, ◌++◌, drop, length, replicate, take}
use Rattle.pdp_replay.proofs.past.image.fill.Given as goal

abbrev pub invariant-loop-number : goal.invariant-loop-number
invariant-loop-number g l = record {
  long : length (g.S.Store.words l.store) ≡ length (g.S.Store.words l.initial.store);
  words : g.S.Store.words l.store ≡ take l.number l.image ++ drop l.number (g.S.Store.words l.initial.store);
  stamps : (n : ℕ) → g.S.Store.stamps l.initial.store ≡ replicate n None → g.S.Store.stamps l.store ≡ replicate n None;
  first_touches : g.S.Store.first_touches l.store ≡ g.S.Store.first_touches l.initial.store;
}
