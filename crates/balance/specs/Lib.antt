-- What the rules that add rows up compare. Read in this order.
pub mod Wood
