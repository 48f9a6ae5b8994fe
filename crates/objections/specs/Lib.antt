pub mod Objections
mod Examples
