pub mod Fields
pub mod Instruction
pub mod Table
pub mod Format
