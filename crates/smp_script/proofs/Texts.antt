-- from the front
pub mod Digits
pub mod Fronts
-- as they are written
pub mod Decimals
pub mod Joins
-- put together again
pub mod Splits
-- by name
pub mod Named
