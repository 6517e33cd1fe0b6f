-- CPUs at the end of a program
pub mod Ends
-- what a TLB holds, and what a call takes out of it
pub mod Tlb
-- what a CPU has queued and sent
pub mod Once
