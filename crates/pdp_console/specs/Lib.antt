pub mod Bits
pub mod Keyboard
pub mod Kl
pub mod Kw
pub mod Laws
