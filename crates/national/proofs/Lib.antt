mod Pieces
mod Sums
mod Widths
mod Turns
pub mod Streaming
pub mod AnyOrder
pub mod Alike
