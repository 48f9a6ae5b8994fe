pub mod Digits
mod Examples
