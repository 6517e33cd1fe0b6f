-- words, from one place
pub mod Names
pub mod ReplayNames
-- what the events of a trace show of the calls of each CPU
pub mod Calls
-- where each record is
pub mod Records
-- what holds of CPUs in stops
pub mod Stops
-- what holds of keys and sites
pub mod Labels
-- the events of calls of a replay
pub mod ReplayCalls
-- its stops
pub mod ReplayStops
-- its patches
pub mod ReplayPatches
-- all of it
pub mod WholeReplays
-- its text
pub mod ReplayTexts
