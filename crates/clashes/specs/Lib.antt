-- Which row stands at a place, and why rows can't be written. Read in this order.
pub mod Stands
pub mod Clashes
