mod Texts
pub mod Names
