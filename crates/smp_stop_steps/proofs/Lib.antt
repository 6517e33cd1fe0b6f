-- lists and words
pub mod Basics
-- facts of the state
pub mod State
-- kinds of step, and the steps of the commands by their stages
pub mod Steps
-- what a CPU knows
pub mod Knows
-- the machine: a stop table, and a list of controls
pub mod TheMachine
-- the laws
pub mod Promises
