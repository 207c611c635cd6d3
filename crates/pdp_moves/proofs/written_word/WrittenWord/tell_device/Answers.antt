use Rattle.std.proofs.Common.{◌∙◌, refl}
use Rattle.pdp_made.specs.Cells.{ConditionCode, Low}
use Rattle.pdp_made.specs.ReferenceRows.{halves_of_device, halves_put}
use Rattle.pdp_moves.specs.Built.{halves_written}
use Rattle.pdp_moves.proofs.written_word.WrittenWord.tell_device.Goals as goal

pub returns-in-ProgramStatus : goal.returns-in-ProgramStatus
returns-in-ProgramStatus c =
    let from = λ (code : ConditionCode). halves_put c.args.size c.args.physical (halves_of_device c.args.register) (halves_written c.args.self) Low in
    c.tell_codes.ensures.moves from (record {
      negative = c.put.ensures;
      zero = c.put-in-ProgramStatus.ensures;
      overflow = c.put-in-ProgramStatus-2.ensures;
      carry = c.put-in-ProgramStatus-3.ensures;
    })
    ∙ rw (c.requires, c.in-ProgramStatus.is) refl
