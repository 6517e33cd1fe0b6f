-- lines that are answered
mod Answering
mod Picking
-- threads that are joined
mod Joining
-- what is printed
mod Numbering
mod Yielding
-- what is read of the labels
mod Readings
-- a CPU stays at its machine, and why calls are refused
mod Staying
mod Calling
mod Refusals
-- what a stop of the caller itself answers
mod Echoing
-- what calls send, and which stops they make
mod Sending
mod Making
mod Waiting
-- what stays of a seat
mod Stays
-- lines of a run
mod Lines
-- what a CPU has done in a run
mod Running
