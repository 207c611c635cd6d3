pub mod Operands
pub mod Text
pub mod TextLaw
pub mod Reading
pub mod Assembly
