-- The doubles of 01. Read in this order. How near they are is the crate `nearness`.
pub mod Answers
pub mod Double
pub mod Subtotals
pub mod Steps
