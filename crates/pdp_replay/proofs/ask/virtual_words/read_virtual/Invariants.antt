use Rattle.std.proofs.Common.{◌≡◌, Ok}
use Rattle.pdp_replay.specs.Ask.VirtualReads.{virtual_words}
use Rattle.pdp_replay.proofs.ask.virtual_words.read_virtual.Given as goal

abbrev pub invariant-loop-index : goal.invariant-loop-index
invariant-loop-index l = virtual_words l.words.mode l.words.address l.index l.machine.state.world.bus ≡ Ok l.items.items
