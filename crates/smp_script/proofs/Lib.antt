-- words, from one place
pub mod Names
-- lines, fields and decimal numbers: taken apart, and put together
pub mod Texts
-- what the functions that read rest on
pub mod Reader
-- what is read, made and written
pub mod Transforms
-- lines by their rows: a shape, and what is made of its fields
pub mod Rows
-- a script as it is written reads back
pub mod Written
-- a text that reads as a script is one as it is written
pub mod Spelled
-- the first fault of any other text
pub mod Faults
-- the texts of notes read back
pub mod NoteTexts
