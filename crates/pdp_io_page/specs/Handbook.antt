-- What the handbooks say of the I/O page: its registers, requests and delays.
pub mod Bits
pub mod Status
pub mod Source
pub mod Register
pub mod Delays
pub mod Reset
