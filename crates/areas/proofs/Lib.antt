pub mod Sums
pub mod Lowly
pub mod Turns
pub mod Places
pub mod Return
pub mod Among
pub mod Balanced
