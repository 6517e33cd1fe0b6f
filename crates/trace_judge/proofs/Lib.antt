pub mod Counts
pub mod Faulted
pub mod Judging
pub mod Meaning
pub mod Texts
