-- The laws of steps.
pub mod Premises
pub mod Records
pub mod Functions
pub mod Notes
pub mod Tries
pub mod Keeps
pub mod Saying
pub mod Reaching
