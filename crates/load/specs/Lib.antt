-- what the command line may ask for
pub mod Requests
-- how many calls have run in a bench
pub mod Tallies
-- what a torture draws
pub mod Kinds
-- what a torture counts
pub mod Counts
-- what a torture says at its end
pub mod Verdicts
-- CPUs at its end
pub mod Ends
