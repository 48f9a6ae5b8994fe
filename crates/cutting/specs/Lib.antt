pub mod Cutting
mod Examples
