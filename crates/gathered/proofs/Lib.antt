pub mod Tallies
pub mod Shuffled
pub mod Sizes
pub mod Exact
