use Rattle.std.proofs.Common.{arith}
use Rattle.pdp_word.specs.declared.size.Size.TheVariants.{Word}
use Rattle.pdp_steps.proofs.step_run.carry_out.Goals as goal

pub run_steps-requires : goal.run_steps-requires
run_steps-requires g c = record {
  size = Word;
  fits = omega arith;
  in_order = rw c.as_slice.ensures.value (c.steps_of-steps.ensures.ready Word);
}
