pub mod Numbers
pub mod Lines
pub mod InTurn
pub mod Outs
pub mod Notes
