-- The rules of rows that are to be written. Read in this order.
pub mod Rules
pub mod SecondEdition
pub mod Examples
