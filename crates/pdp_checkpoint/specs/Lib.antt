pub mod Formers
pub mod Ladder
pub mod Delayed
pub mod Patched
