-- Words are of a text if their own text is the same.
use Rattle.std.proofs.Common.{take, sym, ap, ◌∙◌}
use Rattle.std.proofs.lemmas.Bool.{false≢true}
use Rattle.std.proofs.lemmas.Bool.Decides.{Decides-eqb}
use Rattle.std.proofs.lemmas.Slice.Eq.{slice_eq-Decides}
use Rattle.pdp_disassembler.proofs.assembly.words_if_shown.Goals as goal

pub returns-then-eq : goal.returns-then-eq
returns-then-eq c =
    let same = (slice_eq-Decides Decides-eqb c.as_slice.result.now c.args.text.now c.eq.result c.eq.ensures).0 c.if-eq.true in
    record {
      three = c.args.words;
      are = c.first_words.ensures.fit;
      taken = sym (c.first_words.ensures.items ∙ ap (λ count. take count c.args.words) c.disassemble-shown.ensures.word_count);
      shown = sym c.disassemble-shown.ensures.text ∙ sym c.as_slice.ensures.value ∙ same;
    }

pub returns-else-eq : goal.returns-else-eq
returns-else-eq c shown =
    let differ = (slice_eq-Decides Decides-eqb c.as_slice.result.now c.args.text.now c.eq.result c.eq.ensures).1
    (c.as_slice.ensures.value ∙ c.disassemble-shown.ensures.text ∙ shown) in
    absurd (false≢true (sym c.if-eq.false ∙ differ))
