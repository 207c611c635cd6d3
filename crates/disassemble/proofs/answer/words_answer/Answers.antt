use Rattle.std.proofs.Common.{◌∙◌, sym}
use Rattle.disassemble.proofs.AnsweredLines.{found_at}
use Rattle.disassemble.proofs.answer.words_answer.Goals as goal

pub returns-in-Ok : goal.returns-in-Ok
returns-in-Ok c =
    found_at _ _ _ _ _ (sym c.address_of_text.ensures ∙ c.in-Ok.is) c.after_field.ensures c.assembly_answer.ensures
