-- What the handbook says of memory management.
pub mod Bits
pub mod Mode
pub mod Apr
pub mod Place
pub mod Status
pub mod Translation
pub mod Kt
