-- What a line of a text says of a row.
pub mod LineSays
