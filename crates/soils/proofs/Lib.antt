pub mod Limits
pub mod Rows
