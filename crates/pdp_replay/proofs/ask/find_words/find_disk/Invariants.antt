use Rattle.std.proofs.Common.{◌≡◌, ◌≤◌, length}
use Rattle.pdp_replay.specs.Ask.WordsFound.{numbers_fitting}
use Rattle.pdp_replay.specs.Run.States.{disk_of}
use Rattle.pdp_replay.proofs.ask.find_words.find_disk.Given as goal

abbrev pub invariant-loop-index : goal.invariant-loop-index
invariant-loop-index l = record {
  met : l.numbers.items ≡ numbers_fitting l.wanted.pattern (disk_of l.machine.state.world l.fn.drive) l.first l.index;
  few : length l.numbers.items ≤ 256;
}
