pub mod Limits
pub mod Sums
pub mod Accepted
pub mod RowSums
pub mod Masses
