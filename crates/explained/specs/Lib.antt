pub mod Explanation
pub mod Explained
