-- The words, and the rule that each access keeps.
pub mod Cells
pub mod Keeps
pub mod Seating
