-- Where the rows of a return stand, and what it says of them that no rule is broken.
--     Stand, StandRows    blocks of the kinds in order; the rows of a kind one after the other
--     Accepted            what follows from the rules, by their numbers
--     Rows                a row by the counts, as the loops over the rows find it
--     Lines               rows that stand one after the other, with none elsewhere
--     FirstEdition        edition 1 as before
pub mod Stand
pub mod StandRows
pub mod Accepted
pub mod Rows
pub mod Lines
pub mod FirstEdition
