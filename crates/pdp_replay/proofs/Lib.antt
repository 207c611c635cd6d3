pub mod Engines
pub mod TakenBack
