pub mod Cells
pub mod Lines
mod Examples
