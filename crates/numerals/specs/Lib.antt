pub mod Numerals
pub mod Written
mod Examples
