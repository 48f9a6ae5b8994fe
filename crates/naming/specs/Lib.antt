pub mod Names
pub mod RowLines
