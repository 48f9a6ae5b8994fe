-- What the code's proofs cite.
pub mod Walk
mod Fields
