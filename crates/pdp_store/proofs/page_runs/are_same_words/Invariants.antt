use Rattle.std.proofs.Common.{◌≡◌, take, true}
use Rattle.std.specs.Prelude.{◌↔◌}
use Rattle.pdp_store.proofs.page_runs.are_same_words.Given as goal

abbrev pub invariant-loop-k : goal.invariant-loop-k
invariant-loop-k l = (l.same ≡ true) ↔ (take l.k l.some ≡ take l.k l.others)
