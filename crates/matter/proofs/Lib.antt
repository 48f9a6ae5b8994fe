pub mod Whole
pub mod Sizes
pub mod Adding
