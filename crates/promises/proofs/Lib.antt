pub mod Demand1
pub mod FromC
pub mod Lent
pub mod Cleared
pub mod National
pub mod Residues
pub mod Texts
