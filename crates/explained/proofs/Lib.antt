pub mod Laws
mod Texts
