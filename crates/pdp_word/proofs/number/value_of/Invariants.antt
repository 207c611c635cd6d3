use Rattle.std.proofs.Common.{◌≡◌, take}
use Rattle.pdp_word.specs.Number.{worth}
use Rattle.pdp_word.proofs.number.value_of.Given as goal

abbrev pub invariant-loop-byte : goal.invariant-loop-byte
invariant-loop-byte l = l.value ≡ worth l.base (take l.byte-index l.text)
