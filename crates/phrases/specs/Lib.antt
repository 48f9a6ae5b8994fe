pub mod Ascii
pub mod Lines
pub mod Room
pub mod Words
mod Examples
