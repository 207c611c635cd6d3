use Rattle.std.proofs.Common.{◌≡◌, ◌+◌, ◌≤◌, ◌++◌, length}
use Rattle.std.specs.Option.{option_map}
use Rattle.pdp_session.specs.Grammar.Arguments.{bytes_named}
use Rattle.pdp_session.specs.Grammar.Words.{words_of_line}
use Rattle.pdp_session.proofs.grammar.arguments.read_bytes.Given as goal

-- the bytes so far are those of the words before the rest
abbrev pub invariant-loop-word : goal.invariant-loop-word
invariant-loop-word l = record {
  named : bytes_named (words_of_line l.text) ≡ option_map (λ more. l.bytes.items ++ more) (bytes_named (words_of_line l.rest));
  room : length l.bytes.items + length l.rest ≤ length l.text;
}

abbrev pub decreases-loop-word : goal.decreases-loop-word
decreases-loop-word l = length l.rest
