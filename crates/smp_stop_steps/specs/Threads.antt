-- What each CPU knows over threads. No run makes any of it, and the pure machine has none.
-- where it is, as far as its steps have told
pub mod Known
-- what it knows after each step
pub mod KnownAfter
-- which steps it may make
pub mod Moves
