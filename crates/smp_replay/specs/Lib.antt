-- what is printed
pub mod Text
pub mod Showing
-- a replay, from its first event to its last
pub mod Output
pub mod ProgressOf
-- a call of `print_script`
pub mod Printing
-- a call of `replay_script`
pub mod Replays
-- the first line in which two texts differ
pub mod Difference
-- a call of `check_steps`
pub mod Checks
