pub mod Laws
pub mod Files
pub mod Going
pub mod Reading
