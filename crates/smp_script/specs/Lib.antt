-- texts
pub mod Lines
pub mod LineOf
pub mod Numbers
-- scripts, and their first fault
pub mod Faults
pub mod Versions
pub mod Modes
pub mod Fields
pub mod Requests
pub mod Commands
pub mod Labels
pub mod Keys
pub mod Script
pub mod MeaningOf
-- devices, and errors
pub mod Watched
pub mod Streams
pub mod Transforms
pub mod Errors
-- how scripts are written, and what is wrong with texts that are none
pub mod Spelling
pub mod Shapes
pub mod FieldFaults
pub mod FirstFault
-- how words and notes are printed
pub mod Printed
-- the front of a text that goes with one
pub mod Front
