-- Where every tonne of cleared biomass went.
pub mod Matter
-- What the trait asks of them.
pub mod Laws
