-- What the handbook says of the disk.
pub mod Bits
pub mod Geometry
pub mod Rk
pub mod Transfer
pub mod Completion
