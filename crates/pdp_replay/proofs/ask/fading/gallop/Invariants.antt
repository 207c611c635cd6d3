use Rattle.std.proofs.Common.{◌≡◌, ◌-◌, ◌≤◌, false}
use Rattle.pdp_cpu.specs.Saved.{saved_machine}
use Rattle.pdp_replay.specs.Ask.Fadings.{AreApart, are_joined}
use Rattle.pdp_replay.specs.Past.{Past}
use Rattle.pdp_replay.specs.Run.Branches.{AreBesideAt, IsLookedAt, KeepsBranch}
use Rattle.pdp_replay.specs.Run.KeptRuns.{KeepsRun}
use Rattle.pdp_replay.specs.Run.States.{at}
use Rattle.pdp_replay.proofs.ask.fading.gallop.Given as goal

abbrev pub invariant-loop-apart : goal.invariant-loop-apart
invariant-loop-apart l = record {
  beside : AreBesideAt l.apart l.state l.script l.run l.branch;
  here : l.branch.machine.state.turn ≡ l.apart;
  least : l.from ≤ l.apart;
  most : l.apart ≤ l.to;
  kept : KeepsRun l.script l.fn.run l.run;
  branch : KeepsBranch l.fn.branch l.branch;
  looked : IsLookedAt l.to l.fn.run l.run;
  told : (p q : Past) → AreApart l.from p q l.script l.fn.run l.fn.branch → l.fn.state ≡ saved_machine (at q l.from)
      → (are_joined p q l.apart ≡ false) × (l.state ≡ saved_machine (at q l.apart));
}

abbrev pub decreases-loop-apart : goal.decreases-loop-apart
decreases-loop-apart l = l.to - l.apart
