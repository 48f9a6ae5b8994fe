pub mod Answered
pub mod Single
