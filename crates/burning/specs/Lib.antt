-- What burning gives off. Read in this order.
pub mod Released
pub mod Gases
pub mod Laws
