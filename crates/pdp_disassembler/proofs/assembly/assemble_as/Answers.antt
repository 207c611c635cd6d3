-- The words that a text says of this word and its fields serve, or none do.
use Rattle.pdp_disassembler.proofs.Assembled.{of_other}
use Rattle.pdp_disassembler.proofs.assembly.assemble_as.Goals as goal

pub returns : goal.returns
returns c =
    of_other c.args.address c.args.text.now c.args.base c.in-Some.rest.now c.read_words.result c.words_if_shown.result
    (λ taken. taken.items) c.in-Some.ensures c.read_words.ensures c.words_if_shown.ensures
