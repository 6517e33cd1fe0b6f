-- the steps of a CPU that sleeps, and of those that wake it
pub mod Alarm
