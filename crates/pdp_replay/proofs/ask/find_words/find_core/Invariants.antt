use Rattle.std.proofs.Common.{◌≡◌, ◌≤◌, length}
use Rattle.pdp_replay.specs.Ask.WordsFound.{numbers_fitting}
use Rattle.pdp_replay.proofs.ask.find_words.find_core.Given as goal

abbrev pub invariant-loop-index : goal.invariant-loop-index
invariant-loop-index l = record {
  met : l.numbers.items ≡ numbers_fitting l.wanted.pattern l.machine.state.world.bus.core l.first l.index;
  few : length l.numbers.items ≤ 256;
}
