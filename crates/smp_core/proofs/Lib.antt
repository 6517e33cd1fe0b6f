-- what a command or a step of one half leaves to the other
pub mod Starts
pub mod Insides
pub mod Halves
pub mod Saying
-- what a step changes of a core, and what it keeps
pub mod Kept
pub mod Offline
pub mod OfflineStops
pub mod Joined
pub mod Whole
pub mod Headline
-- a list of events
pub mod OfflineEvents
pub mod Replays
-- how a core is kept, and what it takes
pub mod Weights
