-- The lookup in table 5-2. The table itself and its rule are the crate `entries52`. Read in this order.
pub mod Lookup
pub mod Lent
mod Examples
