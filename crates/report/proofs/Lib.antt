mod Filled
mod Short
pub mod InARow
