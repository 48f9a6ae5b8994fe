pub mod Heads
mod Examples
