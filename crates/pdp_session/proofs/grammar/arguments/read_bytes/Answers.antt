use Rattle.std.proofs.Common.{◌≡◌, None, Some, refl, sym, arith}
use Rattle.pdp_session.specs.Grammar.Arguments.{byte_named}
use Rattle.pdp_session.specs.Grammar.Words.{words_of_line}
use Rattle.pdp_session.proofs.NamedBytes.{one_more_named, no_more_named, all_named}
use Rattle.pdp_session.proofs.grammar.arguments.read_bytes.Goals as goal

pub returns-in_err-read_byte : goal.returns-in_err-read_byte
returns-in_err-read_byte c =
    let before = rw c.in-Some.ensures.words at c.loop-word.invariant.named in
    let none : byte_named c.in-Some.word.now ≡ None = cc (c.read_byte.ensures, c.in_err-read_byte.was) in
    let all = no_more_named _ c.loop-word.bytes.items c.in-Some.word.now (words_of_line c.in-Some.others.now) none before in
    rw (c.from_residual.ensures, all) refl

pub loop-word-preserved : goal.loop-word-preserved
loop-word-preserved c =
    let before = rw c.in-Some.ensures.words at c.loop-word.invariant.named in
    let byte : byte_named c.in-Some.word.now ≡ Some c.in_ok-read_byte.field-0 = cc (c.read_byte.ensures, c.in_ok-read_byte.was) in
    record {
      named = rw c.push.ensures.items (one_more_named _ c.loop-word.bytes.items c.in-Some.word.now (words_of_line c.in-Some.others.now) c.in_ok-read_byte.field-0 byte before);
      room = omega (arith, c.push.ensures.len, c.in-Some.ensures.shorter, c.loop-word.invariant.room);
    }

pub returns : goal.returns
returns c =
    let before = rw c.in_default.ensures.words at c.loop-word.invariant.named in
    sym (all_named _ c.loop-word.bytes.items before)
