pub mod Numbers
pub mod Rounding
pub mod Signs
mod Examples
