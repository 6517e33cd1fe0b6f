-- CPUs at the end of a torture
pub mod Ending
-- the calls that a CPU has sent
pub mod Sent
