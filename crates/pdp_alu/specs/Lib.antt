pub mod Arithmetic
pub mod ArithmeticShifts
pub mod Bytes
pub mod Division
pub mod Effect
pub mod ExtendedLaws
pub mod Laws
pub mod Logic
pub mod Long
pub mod Multiplication
pub mod Operand
pub mod Shifts
pub mod SingleOperand
-- what attributes open, by a shorter path
unfoldable pub use Rattle.pdp_alu.specs.Arithmetic.{cmp_effect}
unfoldable pub use Rattle.pdp_alu.specs.Multiplication.{mul_effect}
unfoldable pub use Rattle.pdp_alu.specs.SingleOperand.{adc_effect, com_effect, sbc_effect}
