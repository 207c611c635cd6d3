pub mod Bits
pub mod Number
pub mod Mask
pub mod Size
pub mod Physical
pub mod Word
