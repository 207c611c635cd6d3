-- What data is, and what a row of a phase is worth.
pub mod Cells
pub mod PhaseRows
-- The rows, in the handbook's order.
pub mod ReferenceRows
pub mod OperandRows
pub mod EffectRows
pub mod InstructionRows
pub mod TrapRows
pub mod CourseRows
