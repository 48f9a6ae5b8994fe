-- What adds up over returns, and what is derived from it. Read in this order.
pub mod Ledger
pub mod Derived
pub mod Several
