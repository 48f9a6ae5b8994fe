pub mod Return
pub mod Rows
