pub mod Handbook
-- where the answers of functions are kept in the latch
pub mod KeptAnswers
pub mod Laws
-- what attributes open, by a shorter path
unfoldable pub use Rattle.pdp_instruction.specs.Handbook.Branch.{branch_plan, sob_plan}
unfoldable pub use Rattle.pdp_instruction.specs.Handbook.ChangeCodes.{clear_plan, set_plan}
unfoldable pub use Rattle.pdp_instruction.specs.Handbook.Execute.{finish_plan}
unfoldable pub use Rattle.pdp_instruction.specs.Handbook.Extended.{ash_plan, ashc_plan, div_plan}
unfoldable pub use Rattle.pdp_instruction.specs.Handbook.Extended.{mul_plan}
unfoldable pub use Rattle.pdp_instruction.specs.Handbook.Instruction.{fetch_instruction}
unfoldable pub use Rattle.pdp_instruction.specs.Handbook.Instruction.{instruction}
unfoldable pub use Rattle.pdp_instruction.specs.Handbook.Jump.{jmp_plan, jsr_plan, mark_plan}
unfoldable pub use Rattle.pdp_instruction.specs.Handbook.Jump.{pop_register, rts_plan}
unfoldable pub use Rattle.pdp_instruction.specs.Handbook.Moves.{mov_plan, movb_plan}
unfoldable pub use Rattle.pdp_instruction.specs.Handbook.OneOperand.{modify_plan, replace_plan}
unfoldable pub use Rattle.pdp_instruction.specs.Handbook.OneOperand.{tst_plan}
unfoldable pub use Rattle.pdp_instruction.specs.Handbook.Operands.{place_first, source_first}
unfoldable pub use Rattle.pdp_instruction.specs.Handbook.PreviousMode.{mfpi_plan, mtpi_plan}
unfoldable pub use Rattle.pdp_instruction.specs.Handbook.ReturnFromTrap.{return_plan}
unfoldable pub use Rattle.pdp_instruction.specs.Handbook.TrapSequence.{red_plan, vector_counter}
unfoldable pub use Rattle.pdp_instruction.specs.Handbook.TrapSequence.{vector_status}
unfoldable pub use Rattle.pdp_instruction.specs.Handbook.TwoOperands.{combine_plan, compare_plan}
