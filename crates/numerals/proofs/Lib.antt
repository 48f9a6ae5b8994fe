pub mod Amounts
pub mod Capped
pub mod Counting
pub mod Fronts
pub mod Meaning
pub mod Shapes
