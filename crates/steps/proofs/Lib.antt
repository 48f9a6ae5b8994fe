-- The steps of promises, each theorem's where no crate below has them.
--     Told      a verdict, what a write answers, the figures and the doubles are one ruling's alone; what the sheets' answer says
--     Editions  what is told of an edition, that edition 1 has no abandoned land, savannas, mineral soils or crop residues, and that 4 stops one above ten blocks
--     Wood      what rule 12 says of a return, and of M and O
--     Soils     what rule 13 says of a return, and of rows to be written
--     Residues  returns whose blocks of every kind but 8 are alike have the same rows of those kinds
--     Scattered how many rows of scattered trees a return has
--     Trees     what rule 14 says of them
--     Figures   so many parts of a mass that is held as words
--     Rounds    rounding is to nearest, a half to the even neighbour, for both signs
--     Clauses   what follows from the facts of a contract's clauses
--     Lent      what is lent as `&[u8]` is bytes
--     Doubles   a double of zero is near no other number, and the order of a row's factors matters; a double from its eight bytes
pub mod Told
pub mod Editions
pub mod Wood
pub mod Soils
pub mod Scattered
pub mod Trees
pub mod Figures
pub mod Residues
pub mod Rounds
pub mod Clauses
pub mod Lent
pub mod Doubles
