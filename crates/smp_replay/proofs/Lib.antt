mod Differences
pub mod Showings
pub mod Progresses
