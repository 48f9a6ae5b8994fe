mod Blocks
pub mod Strays
pub mod First
pub mod Fourth
