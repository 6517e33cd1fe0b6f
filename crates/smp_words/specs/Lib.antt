-- CPUs and records
pub mod Bit
pub mod Size
pub mod Limits
-- words by name, and the number of each
pub mod Put
pub mod Layout
pub mod StopLayout
-- what an access does to its word, and how it is seen
pub mod Access
-- calls, stops and commands, as words have them
pub mod Flags
pub mod Kinds
pub mod Commands
-- faults
pub mod FirstFault
