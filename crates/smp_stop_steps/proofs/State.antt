-- Facts of the state.
-- one slot
pub mod KeyCounts
pub mod Phases
pub mod Raises
pub mod Works
pub mod Ends
-- one slot among all, with all CPUs
pub mod Moves
pub mod Acknowledged
pub mod Entered
pub mod Patched
pub mod Owns
pub mod Pasts
pub mod Gates
