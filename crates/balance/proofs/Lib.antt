pub mod Weighing
pub mod TwoParts
pub mod Parts
