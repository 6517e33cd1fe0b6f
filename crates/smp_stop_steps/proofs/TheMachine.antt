-- The machine: a stop table, and a list of controls.
pub mod Tables
pub mod Named
pub mod Values
pub mod StepLaws
pub mod Answered
pub mod Made
pub mod Opened
pub mod Begun
pub mod Fits
pub mod Members
pub mod Starting
pub mod Started
pub mod Refusals
pub mod Kept
pub mod Plain
