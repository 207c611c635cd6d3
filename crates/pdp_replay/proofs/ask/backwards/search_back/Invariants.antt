use Rattle.std.proofs.Common.{◌≡◌, ◌+◌, ◌<◌, ◌≤◌, ℕ, Some}
use Rattle.pdp_replay.specs.Run.Branches.{IsLookedAt}
use Rattle.pdp_replay.specs.Run.KeptRuns.{IsKeptRun, KeepsRun}
use Rattle.pdp_replay.specs.Past.{Past}
use Rattle.pdp_replay.specs.Ask.Backwards.{IsLastOf}
use Rattle.pdp_replay.specs.Ask.SoughtTurns.{is_sought_at}
use Rattle.pdp_replay.proofs.ask.backwards.search_back.Given as goal

abbrev pub invariant-loop-found : goal.invariant-loop-found
invariant-loop-found l = record {
  kept : KeepsRun l.script l.fn.run l.run;
  looked : IsLookedAt l.to l.fn.run l.run;
  least : l.from ≤ l.start;
  most : l.start ≤ l.to;
  ran : l.run.meter + l.start ≤ l.fn.run.meter + l.to + l.run.ladder.stride;
  exact : l.from < l.start → l.run.meter + l.start ≤ l.fn.run.meter + l.to;
  near : (t : ℕ) → l.found ≡ Some t → t < l.start + l.run.ladder.stride;
  last : (p : Past) → p.script ≡ l.script → IsKeptRun p l.fn.run → IsLastOf (is_sought_at p l.sought) l.start l.to l.found;
}

abbrev pub decreases-loop-found : goal.decreases-loop-found
decreases-loop-found l = l.start
