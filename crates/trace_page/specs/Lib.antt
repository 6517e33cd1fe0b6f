-- what a page has of bytes of a text
pub mod Escapes
-- how many events a page shows
pub mod Shown
-- the page of a trace, and of a text of a kernel's tracer
pub mod TracePages
-- the events around a line, where they are in a picture, what it says of each, and what it has between them
pub mod Windows
pub mod Grids
pub mod Titles
pub mod Links
-- the picture
pub mod Pictures
pub mod Laws
