-- What rule 13 compares.
pub mod Areas
pub mod Place
