mod Bits
pub mod LowFirst
