pub mod Soils
pub mod Laws
