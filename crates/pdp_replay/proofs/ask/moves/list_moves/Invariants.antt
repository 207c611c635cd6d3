use Rattle.std.proofs.Common.{◌-◌}
use Rattle.pdp_replay.specs.Ask.Accesses.{log_of_all}
use Rattle.pdp_replay.specs.Ask.MovesListed.{AreMovesFrom}
use Rattle.pdp_replay.specs.Ask.Reads.{RunsLogging}
use Rattle.pdp_replay.proofs.ask.moves.list_moves.Given as goal

abbrev pub invariant-loop-alloc : goal.invariant-loop-alloc
invariant-loop-alloc l = record {
  on : RunsLogging l.to l.script log_of_all l.fn.branch.machine.state l.branch.machine.state l.fn.meter l.meter;
  listed : AreMovesFrom l.branch.machine.state.turn l.script l.fn.branch.machine.state l.details.items;
}

abbrev pub decreases-loop-alloc : goal.decreases-loop-alloc
decreases-loop-alloc l = l.to - l.branch.machine.state.turn
