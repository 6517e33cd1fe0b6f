-- CPUs at the end of a program
pub mod Ending
-- the other CPUs that are online
pub mod Others
-- a key and one of its sites
pub mod Looking
-- what a TLB holds after some calls
pub mod Flushed
