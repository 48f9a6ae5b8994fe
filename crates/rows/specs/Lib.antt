-- What reading and writing answer, and what they leave in lent memory. Read in this order.
pub mod Answers
pub mod Reading
pub mod Writing
