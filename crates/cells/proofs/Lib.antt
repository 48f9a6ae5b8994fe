pub mod Cleaning
pub mod FieldLaws
pub mod LineLaws
pub mod Parts
pub mod Splits
pub mod Tests
pub mod WordLaws
