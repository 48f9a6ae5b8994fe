-- The row that weighs most in a subtotal. Read in this order: how it is found, and what it then is.
pub mod Named
pub mod Heaviest
pub mod Largest
pub mod Examples
