-- The columns that are plain sums, and what the loops over the rows keep.
pub mod Masses
pub mod Columns
pub mod Abandoned
pub mod Sums
pub mod RowSums
-- Which of the three carbon subtotals a number names.
pub mod Codes
-- What the traits ask of each that is added up.
pub mod Laws
