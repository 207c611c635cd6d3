use Rattle.std.proofs.Common.{arith}
use Rattle.pdp_word.specs.declared.size.Size.TheVariants.{Word}
use Rattle.pdp_operand.specs.Phases.Phase.{state_of}
use Rattle.pdp_steps.specs.Steps.{latch_of}
use Rattle.pdp_moves.proofs.SequenceMoves.{gave_up}
use Rattle.pdp_moves.proofs.noted_sequence.give_up_noting.Goals as goal

pub note_plan-requires-clause-ready : goal.note_plan-requires-clause-ready
note_plan-requires-clause-ready g c = record { size = Word; fits = omega arith; in_order = (tt, tt) }

pub returns : goal.returns
returns g c = gave_up c.args.context (state_of c.args.processor.now c.args.bus.now (latch_of c.args.latch.now)) (state_of c.note_plan.new.processor c.note_plan.new.bus (latch_of c.note_plan.new.latch)) c.note_plan.result c.note_plan.new.noted
    c.note_plan.ensures.ends c.note_plan.ensures.made c.note_plan.ensures.lost
