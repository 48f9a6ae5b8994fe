-- What 01 works out by example, each computed by the checker from the definitions.
--     Day         the worked day, from rows to bytes and back
--     FromRows    the answer to a return of rows, from the rows
--     Cases       01's single table (a) to (j), under one claim
pub mod Day
pub mod FromRows
pub mod Cases
