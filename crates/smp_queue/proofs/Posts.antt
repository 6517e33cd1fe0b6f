-- A CPU between two calls, and a post.
pub mod Own
pub mod Ready
pub mod Appends
pub mod Kept
pub mod Shown
