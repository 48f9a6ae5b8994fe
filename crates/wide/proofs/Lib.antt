pub mod Laws
pub mod SignLaws
pub mod Halves
