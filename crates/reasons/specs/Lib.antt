pub mod Above
pub mod Reasons
pub mod Explains
