-- what lines answer
pub mod Answers
-- which calls they ask for
pub mod Sent
-- a CPU between two lines, and a seat between two calls
pub mod Seats
pub mod Stays
-- which stops its lines ask for
pub mod Made
-- what threads are given and give back
pub mod Driven
-- what a CPU reads of the labels at the end
pub mod Readings
-- what a run prints
pub mod Text
-- a run as a whole, and a call of `run_script`
pub mod Runs
-- how the program ends
pub mod Status
