-- Laws of whole doubles, for every crate, the bound of demand 3, and the order of §9.
pub mod Rounding
pub mod Wholes
pub mod Errors
pub mod Parts
pub mod Sums
pub mod Bound
pub mod Demand
pub mod Cleared
