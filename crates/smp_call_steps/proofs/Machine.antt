-- The machine: a list of words, and a list of controls.
pub mod Accesses
pub mod Fits
pub mod Cores
pub mod Starts
