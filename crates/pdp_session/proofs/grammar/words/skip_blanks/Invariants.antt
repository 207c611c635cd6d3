use Rattle.std.proofs.Common.{◌≡◌, ◌≤◌, length}
use Rattle.pdp_session.specs.Grammar.Words.{words_of_line}
use Rattle.pdp_session.proofs.grammar.words.skip_blanks.Given as goal

abbrev pub invariant-loop-first : goal.invariant-loop-first
invariant-loop-first l = record {
  words : words_of_line l.rest ≡ words_of_line l.text;
  length : length l.rest ≤ length l.text;
}

abbrev pub decreases-loop-first : goal.decreases-loop-first
decreases-loop-first l = length l.rest
