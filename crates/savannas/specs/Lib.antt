pub mod Savannas
