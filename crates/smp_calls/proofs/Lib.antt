-- lists of what was queued, and of what was handled
pub mod Turns
-- one step after the other
pub mod Steps
-- a call by one record
pub mod One
-- the record for calls to many
pub mod Lawful
-- lists of the members of a mask
pub mod Lists
-- one more of many CPUs
pub mod Round
-- how many steps a family makes, and how often it handles meanwhile
pub mod Takes
pub mod Counted
-- the loops over many CPUs
pub mod Loops
-- the loops that send, and that wait
pub mod Passes
-- where all records are seen confirmed, nothing is handled before the interrupts
pub mod AtOnce
-- a call to many, out of its parts
pub mod Parts
pub mod Ended
-- each CPU of a mask is called, or all are
pub mod Names
-- waiting no longer than some polls, and a call to many that does
pub mod Polling
pub mod Bounded
