pub mod Crops
