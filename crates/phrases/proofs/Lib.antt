pub mod Bounds
pub mod Filled
pub mod LineTexts
pub mod Room
pub mod Values
pub mod WordLaws
