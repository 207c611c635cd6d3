-- What assembling gives is what is shown.
use Rattle.std.specs.Prelude.{option_map}
use Rattle.disassemble.proofs.answer.assembly_answer.Goals as goal

pub returns : goal.returns
returns c = (option_map (λ words. words.items) c.assemble.result, c.assemble.ensures, c.found_answer.ensures)
