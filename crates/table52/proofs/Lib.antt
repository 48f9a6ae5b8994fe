pub mod Rule
pub mod Answers
