pub mod Bits
pub mod Laws
pub mod Pc11
pub mod Reader
