-- What the law of instructions speaks of.
pub mod InstructionLaws
