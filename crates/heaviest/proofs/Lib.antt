pub mod Rising
pub mod Walk
pub mod Largest
pub mod Answers
