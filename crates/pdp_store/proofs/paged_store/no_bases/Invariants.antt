use Rattle.std.proofs.Common.{◌≡◌, length}
use Rattle.pdp_store.proofs.paged_store.no_bases.Given as goal

abbrev pub invariant-loop : goal.invariant-loop
invariant-loop l = length l.bases.items ≡ l.counter
