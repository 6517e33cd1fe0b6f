-- a core
pub mod Value
pub mod Sound
pub mod Offline
pub mod OfflineStops
pub mod Joined
pub mod New
-- its commands and its steps
pub mod Start
pub mod Machine
pub mod Whole
pub mod Headline
pub mod Broken
-- a list of events
pub mod Replay
pub mod Runs
-- what is read of it
pub mod Queues
-- how it is kept
pub mod Kept
pub mod Weights
