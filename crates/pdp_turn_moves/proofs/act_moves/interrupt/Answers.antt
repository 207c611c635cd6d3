use Rattle.std.proofs.Common.{subst, true}
use Rattle.pdp_operand.specs.Phases.Phase.{state_of}
use Rattle.pdp_steps.specs.Steps.{latch_of}
use Rattle.pdp_instruction.specs.Handbook.TrapSequence.{context}
use Rattle.pdp_cpu.specs.Handbook.Due.{serve}
use Rattle.pdp_io_page.specs.Handbook.Source.{vector_of}
use Rattle.pdp_made.specs.CourseRows.{Saving, sequence_rows}
use Rattle.pdp_moves.specs.CourseMoves.{IsNoted, sources_of_act}
use Rattle.pdp_turn_moves.proofs.Dues.{serve_step, served}
use Rattle.pdp_turn_moves.proofs.act_moves.interrupt.Goals as goal

pub returns : goal.returns
returns g c = λ saved. served (serve c.args.source) true (vector_of c.args.source) saved (state_of c.args.processor.now c.args.bus.now (latch_of c.args.latch.now)) (state_of c.set_run.new.self c.serve.new.self (latch_of c.args.latch.now)) (state_of c.interrupt_noting.new.processor c.interrupt_noting.new.bus (latch_of c.interrupt_noting.new.latch)) (sources_of_act c.interrupt_noting.new.noted)
    (serve_step c.args.source c.args.processor.now c.set_run.new.self c.args.bus.now c.serve.new.self (latch_of c.args.latch.now) c.set_run.ensures c.serve.ensures)
    (subst (λ vector. IsNoted (Saving (sequence_rows true vector (context c.set_run.new.self c.serve.new.self.io_page))) saved (state_of c.set_run.new.self c.serve.new.self (latch_of c.args.latch.now)) (state_of c.interrupt_noting.new.processor c.interrupt_noting.new.bus (latch_of c.interrupt_noting.new.latch)) (sources_of_act c.interrupt_noting.new.noted)) c.vector.ensures (c.interrupt_noting.ensures saved))
