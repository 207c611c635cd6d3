pub mod Action
pub mod Condition
pub mod Operation
