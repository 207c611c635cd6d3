use Rattle.std.proofs.Common.{◌-◌, ◌<◌, ◌≤◌, ℕ}
use Rattle.pdp_replay.specs.Ask.Fadings.{AreApart, IsBracket}
use Rattle.pdp_replay.specs.Past.{Past}
use Rattle.pdp_replay.specs.Run.Branches.{AreBesideAt, IsBranchOf, IsLookedAt}
use Rattle.pdp_replay.specs.Run.KeptRuns.{KeepsRun}
use Rattle.pdp_replay.proofs.ask.fading.halve.Given as goal

abbrev pub invariant-loop-alike : goal.invariant-loop-alike
invariant-loop-alike l = record {
  beside : AreBesideAt l.apart l.state l.script l.run l.branch;
  order : l.apart < l.alike;
  most : l.alike ≤ l.fn.bracket.alike;
  least : l.fn.bracket.apart ≤ l.apart;
  kept : KeepsRun l.script l.fn.run l.run;
  looked : IsLookedAt l.fn.bracket.alike l.fn.run l.run;
  told : (from to : ℕ) (p q : Past) → AreApart from p q l.script l.fn.run l.fn.branch → from ≤ l.fn.bracket.apart
      → IsBracket to p q l.fn.bracket
      → IsBranchOf q l.branch × IsBracket to p q (record { apart = l.apart; alike = l.alike; state = l.state });
}

abbrev pub decreases-loop-alike : goal.decreases-loop-alike
decreases-loop-alike l = l.alike - l.apart
