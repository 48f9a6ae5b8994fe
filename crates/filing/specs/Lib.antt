-- Rows as they are lent, and as they are filed in records and blocks. Read in this order.
pub mod Lists
pub mod Written
pub mod Tables
