-- The entries of table 5-2 of document 001, and their rule. Read in this order.
pub mod Table
pub mod Entries
pub mod Rule
pub mod Cells
