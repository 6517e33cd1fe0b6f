-- each move keeps the rule of a queue
pub mod Moves
-- what a put and a take leave of a CPU
pub mod Held
-- the passes as they are made
pub mod Made
-- the CPUs of a machine as it is made
pub mod Seating
-- works that were taken were served
pub mod Served
-- looks at the own interrupt word, with interrupts on
pub mod Looks
-- one stretch of work after another
pub mod Works
-- what a look and a turn leave of a CPU
pub mod Turns
-- and what it answers to its own stops
pub mod OwnAnswers
pub mod OwnTurns
-- the works of stops
pub mod StopWorks
-- a stop, out of its parts
pub mod Stopping
-- what a stop of itself alone answers
pub mod OwnCounts
-- a patch, out of its parts
pub mod KeyStops
-- a CPU goes on with a work until it is completed
pub mod Polls
-- a change of a count by one, out of its parts
pub mod KeyCounts
-- readings of a key and of its sites agree
pub mod ReadLaws
-- what the definitions of stops, polls and queues come to
pub mod StopLaws
-- what is noted with the puts of a stop
pub mod Queued
-- when a CPU takes the gate and gives it up
pub mod GateLaws
-- calls by Linux's names
pub mod Names
-- threads of CPUs, one after another
pub mod Crews
-- a CPU stays at its machine, whatever it calls
pub mod Seats
-- the headline
pub mod Headline
-- CPUs that are looked at together
pub mod Meetings
