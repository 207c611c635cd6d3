use Rattle.std.proofs.Common.{◌≡◌, ◌+◌, ◌-◌}
use Rattle.pdp_replay.specs.Past.{Past}
use Rattle.pdp_replay.specs.Ask.Accesses.{AreDetailsFrom, accesses_end, log_of_all, turns_within}
use Rattle.pdp_replay.specs.Ask.Reads.{IsLoggedState, RunsLogging}
use Rattle.pdp_replay.proofs.ask.accesses.list_accesses.Given as goal

abbrev pub invariant-loop-branch : goal.invariant-loop-branch
invariant-loop-branch l = record {
  on : RunsLogging l.to l.script log_of_all l.fn.branch.machine.state l.branch.machine.state l.fn.meter l.meter;
  listed : AreDetailsFrom l.branch.machine.state.turn l.script l.fn.branch.machine.state l.details.items;
  ends : (p : Past) → p.script ≡ l.script → IsLoggedState p l.fn.branch.machine.state
      → accesses_end p l.fn.branch.machine.state.turn l.to
      ≡ l.branch.machine.state.turn + turns_within l.room p l.branch.machine.state.turn (l.to - l.branch.machine.state.turn);
}

abbrev pub decreases-loop-branch : goal.decreases-loop-branch
decreases-loop-branch l = l.to - l.branch.machine.state.turn
