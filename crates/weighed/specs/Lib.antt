pub mod Heaviest
