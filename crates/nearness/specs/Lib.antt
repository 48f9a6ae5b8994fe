pub mod Near
pub mod NoLower
