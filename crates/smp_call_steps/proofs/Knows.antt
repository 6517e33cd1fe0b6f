-- What a CPU knows.
pub mod Parts
pub mod Restages
pub mod Reached
pub mod OneStep
pub mod Posted
pub mod Handling
pub mod Logs
pub mod Heads
pub mod Counts
