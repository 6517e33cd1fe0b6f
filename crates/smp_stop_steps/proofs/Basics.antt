-- Lists and words.
pub mod Bools
pub mod Counts
pub mod Bits
pub mod Weights
pub mod Changes
