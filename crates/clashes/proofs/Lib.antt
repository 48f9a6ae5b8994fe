pub mod Finding
pub mod Broken
mod Told
mod Wood
pub mod Index
