-- The national line: its text, from the bytes of a file.
pub mod Lines
pub mod Nation
pub mod Steps
pub mod Passing
pub mod Computed
