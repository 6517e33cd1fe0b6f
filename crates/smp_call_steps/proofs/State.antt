-- Facts of the state.
pub mod Recordings
pub mod Chains
pub mod Walks
pub mod QueueChains
pub mod Batches
pub mod BatchLinks
pub mod Places
pub mod Whereabouts
pub mod Tallies
pub mod Counts
pub mod QueueOrder
pub mod Classes
pub mod HaveRun
pub mod Drained
