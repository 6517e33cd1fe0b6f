-- What each CPU knows over threads. No run makes any of it, and the pure machine has none.
-- a CPU's own part of the calls
pub mod Parts
-- what it has found in heads
pub mod Heads
-- where it is, as far as its steps have told
pub mod Known
-- what it knows in each handling
pub mod Handling
-- which calls and interrupts it has sent
pub mod Logs
