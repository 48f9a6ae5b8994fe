mod Above
pub mod Rows
mod Refused
mod Wood
pub mod Explains
pub mod Unexplained
