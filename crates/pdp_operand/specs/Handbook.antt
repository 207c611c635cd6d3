-- What the handbook says: registers, references, addressing modes.
pub mod RegisterId
pub mod Processor
pub mod Reference
pub mod Operand
