-- what is learned of a table with no step
pub mod Moments
