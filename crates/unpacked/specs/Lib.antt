-- The text of a return, and what a call that prints it answers. Read in this order.
pub mod Unpacked
pub mod Rooms
pub mod Calls
mod Examples
