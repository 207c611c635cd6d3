pub mod Rules
pub mod Single
pub mod ActionPhases
