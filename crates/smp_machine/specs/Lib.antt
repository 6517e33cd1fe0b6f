-- one stopper queue, by what its passes know
pub mod WorkQueue
-- what one CPU has put and taken
pub mod Passes
-- a machine and a CPU of it
pub mod MachineCpu
-- when it looks at its own interrupt word
pub mod Looks
-- what a family of calls leaves of its CPU
pub mod Calls
-- its own moves at the gate, at its stop and at keys
pub mod Moves
-- what each family answers
pub mod Answers
-- a CPU with its machine, its handler and its stop function
pub mod Seats
-- the CPUs before they begin, each with what was made for it
pub mod Members
-- what CPUs have done, each on a thread of its own
pub mod Crews
-- their threads
pub mod Threads
-- what only a CPU's own stop calls change
pub mod Own
-- what became of the works that it has taken
pub mod Served
-- what it answers to its own stops
pub mod OwnAnswers
-- what a CPU does between two points of a call
pub mod Works
-- what a CPU takes from its own queue
pub mod Takes
-- what a stop call makes of its CPU
pub mod Stops
-- what a change of a key makes of it
pub mod Keys
-- a poll
pub mod Polls
-- what a change of a count by one makes of it
pub mod Counts
-- what it has read of keys and sites
pub mod ReadLaws
-- what these definitions come to
pub mod StopLaws
-- when a CPU takes the gate and gives it up
pub mod GateLaws
-- CPUs that are looked at together
pub mod Crowds
-- the headline
pub mod Headline
