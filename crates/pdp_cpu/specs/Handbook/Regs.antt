-- The registers as a person reads them: DEC PDP-11/40 Processor Handbook (1972), General registers
-- and Processor status word.
use Rattle.std.specs.Prelude.{[], ◌∷◌}
use Rattle.pdp_io_page.specs.Handbook.Status.{status_word}
use Rattle.pdp_operand.specs.Handbook.Processor.{register_of}
use Rattle.pdp_operand.specs.declared.processor.RegisterId.TheVariants.{R0, R1, R2, R3, R4, R5}
use Rattle.pdp_operand.specs.declared.processor.RegisterId.TheVariants.{KernelStack, ProgramCounter}
use Rattle.pdp_operand.specs.declared.processor.RegisterId.TheVariants.{UserStack}
use Rattle.pdp_operand.specs.Phases.World.{World}
use Rattle.pdp_cpu.specs.declared.regs.Regs.{Regs}

abbrev pub regs_of : World → Regs
regs_of w =
    let p = w.processor in
    record {
      r = register_of p R0 ∷ register_of p R1 ∷ register_of p R2 ∷ register_of p R3 ∷ register_of p
          R4 ∷ register_of p R5 ∷ [];
      ksp = register_of p KernelStack;
      usp = register_of p UserStack;
      pc = register_of p ProgramCounter;
      ps = status_word w.bus.io_page.status;
      state = p.run;
    }
