pub mod Places
pub mod Numbers
pub mod Scan
pub mod KindRows
pub mod SecondEdition
