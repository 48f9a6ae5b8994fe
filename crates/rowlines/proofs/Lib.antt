pub mod Heads
pub mod Rising
pub mod Lists
pub mod Places
pub mod Named
