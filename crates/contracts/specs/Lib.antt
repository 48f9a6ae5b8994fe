-- From the contracts to the definitions: what promises says of the definitions goes for the functions.
--     Contract    what it is that a contract asks nothing of its caller, says what is answered, and admits one answer
--     Answers     so does the contract of each entry point
--     Functions   each entry point meets its contract
--     Others      the public functions behind the entry points: their contracts admit one answer too; and so do the forms that other contracts have
--     Rooms       the rooms that the header names for the lines and for the national line are enough for any
--     Texts       all this of the functions of rows as text
pub mod Contract
pub mod Answers
pub mod Functions
pub mod Rooms
pub mod Others
pub mod Texts
