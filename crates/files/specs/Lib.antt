-- What a file of returns comes to, by example.
pub mod National
