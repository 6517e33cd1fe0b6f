-- the targets of a call, and the record of each
pub mod Targets
pub mod Records
-- the calls that a family queues
pub mod Queued
-- what a CPU handles while it waits
pub mod Handles
-- how many steps a family makes, and how often it handles meanwhile
pub mod Turns
-- what a family leaves of its CPU and its handler
pub mod Families
-- what the parts of a call to many leave
pub mod Rounds
-- what a call that waits says of the calls that it made
pub mod Ended
-- what a call leaves that waits no longer than some polls
pub mod Within
