use Rattle.std.proofs.Common.{◌≡◌, take}
use Rattle.pdp_cpu.specs.KeptTexts.{without_turns}
use Rattle.pdp_replay.proofs.ask.items.read_bytes.Given as goal

abbrev pub invariant-loop-index : goal.invariant-loop-index
invariant-loop-index l = l.items.items ≡ take l.index (without_turns l.kept)
