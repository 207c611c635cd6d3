use Rattle.std.proofs.Common.{◌≡◌, take, drop}
use Rattle.pdp_replay.proofs.ask.items.read_core.Given as goal

abbrev pub invariant-loop-index : goal.invariant-loop-index
invariant-loop-index l = l.items.items ≡ take l.index (drop l.first l.machine.state.world.bus.core)
