-- A CPU inside handle.
pub mod Handles
pub mod Entering
pub mod Going
pub mod Ahead
pub mod Running
pub mod Passing
