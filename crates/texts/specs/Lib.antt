pub mod Steps
pub mod Texts
mod Examples
