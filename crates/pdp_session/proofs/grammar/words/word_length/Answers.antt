use Rattle.std.proofs.Common.{length, sym, arith, rules}
use Rattle.std.proofs.lemmas.List.Sums.{position_or_len_is}
use Rattle.pdp_session.specs.Grammar.Words.{is_blank}
use Rattle.pdp_session.proofs.grammar.words.word_length.Goals as goal

pub returns-then-is_blank : goal.returns-then-is_blank
returns-then-is_blank c =
    sym (position_or_len_is is_blank c.args.text.now c.loop-at.at 0 (omega arith) c.loop-at.invariant (λ short. search rules))

pub returns : goal.returns
returns c =
    sym (position_or_len_is is_blank c.args.text.now (length c.args.text.now) 0 (omega arith) (λ k within. c.loop-at.invariant k (omega arith)) (λ short. absurd (omega arith)))
