pub mod Said
mod Examples
