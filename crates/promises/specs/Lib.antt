-- The front page: what Niloferq promises, in the words and order of its three demands. Read in this order.
--     Order       what it is that an answer is chosen by a fixed order of rules
--     Demand1     every input gets its answer, or one refusal by the order; a refusal carries no figures, and nothing lent has changed
--     Rounding    what it is that a tonne is rounded to the nearest, a half to the even neighbour
--     Demand2     the figures are the workbook's columns, rounded once; rows written read back, and a return read is written again to the same bytes
--     Demand3     each subtotal's double is as near as 01 says
--     FromC       what success leaves in memory that is lent from C, and demands 2 and 3 of it
--     Lent        what is lent as `&[u8]` is bytes, so that the round trips ask nothing of running code
--     Wood        no accepted return clears more wood than it uses, so M and O are never below zero
--     Soils       in an accepted return each soil type has as much land now as twenty years ago; else 13, at the first row of the lowest type that has not
--     Editions    edition 1 returns are read as before, but for 12; editions 1 and 2 as before there was a third, which is edition 2 without scattered trees
--     Adding      the check is the last total of a department's adding sheet
--     Table52     a lookup answers the printed entry of table 5-2, or which number is off it
--     Heaviest    the row that is named has the largest part in a subtotal, and the lower id on a tie; none is named where the subtotal is zero
--     Explained   why a return was refused: the refusal's number and place by the order, and the values that clash there
--     Cleared     a return that clears no less than another has no subtotal that is lower, exactly or as a double
--     National    the returns of a file add up to the national line, in any order; where a run stops, and what it prints then
--     Matter      where every tonne of the cleared biomass went: five totals that together are all of it, of a row, a return and a nation
--     Residues    returns that differ only in crop rows have the same figures in every other sheet, the same doubles and the same heaviest rows
--     Texts       a text of rows gets its return or its first fault; a return's rows as text pack to the same bytes; a row is the numbers that its fields say
--     ShutOut     wrong answers that the contracts refuse
-- Of Demand1, FromC, Lent, Cleared, National, Residues and Texts some theorems stand in proofs/, in the file of the same name: those that rest on a theorem here that a
-- must-fail edit makes false.
-- These pages speak of the definitions. That whatever meets an entry point's contract is the answer they speak of, that each contract admits one answer and asks
-- nothing of its caller, and that each entry point meets its contract, is the crate `contracts`.
-- The worked day and 01's table (a) to (j), which the checker computes, are the crate `cases`; the steps of the proofs are in `steps` and in the proofs/ of the crates that they are about.
pub mod Order
pub mod Demand1
pub mod Rounding
pub mod Demand2
pub mod Demand3
pub mod FromC
pub mod Lent
pub mod Wood
pub mod Soils
pub mod Editions
pub mod Adding
pub mod Table52
pub mod Heaviest
pub mod Explained
pub mod Cleared
pub mod National
pub mod Matter
pub mod Residues
pub mod Texts
pub mod ShutOut
