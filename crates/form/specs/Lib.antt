-- What a return is. Read in this order.
pub mod First
pub mod Refusals
pub mod Ruling
pub mod Bytes
pub mod Layout
pub mod Edition
pub mod Block
pub mod Adding
pub mod Records
pub mod Sums
pub mod Verdict
pub mod Standing
pub mod Computed
-- What an edition 1 return was read by before there was another, and those of editions 1 and 2 before there was a third.
pub mod FirstEdition
pub mod SecondEdition
-- No part of what a return is: what steps of the code answer.
pub mod Steps
