pub mod Bits
pub mod Request
pub mod ReadyEnable
pub mod Operation
pub mod Transmitter
pub mod Laws
