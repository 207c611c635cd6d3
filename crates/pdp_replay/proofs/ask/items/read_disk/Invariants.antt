use Rattle.std.proofs.Common.{◌≡◌, take, drop}
use Rattle.pdp_replay.specs.Run.States.{disk_of}
use Rattle.pdp_replay.proofs.ask.items.read_disk.Given as goal

abbrev pub invariant-loop-index : goal.invariant-loop-index
invariant-loop-index l = l.items.items ≡ take l.index (drop l.first (disk_of l.machine.state.world l.drive))
