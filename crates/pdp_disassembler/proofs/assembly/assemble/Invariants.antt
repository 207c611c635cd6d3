use Rattle.std.proofs.Common.{ℕ, ◌<◌}
use Rattle.pdp_disassembler.specs.Assembly.{IsOfOther, base_word_at}
use Rattle.pdp_disassembler.proofs.assembly.assemble.Given as goal

abbrev pub invariant-loop-number : goal.invariant-loop-number
invariant-loop-number l = (number : ℕ) → number < l.number → IsOfOther l.address l.text (base_word_at number)
