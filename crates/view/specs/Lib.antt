-- a replay
pub mod Shows
-- what is shown of it
pub mod Choice
-- a column for each CPU
pub mod Cells
pub mod NarrowLanes
-- a page to step through
pub mod Pages
-- the kinds of texts
pub mod Kinds
pub mod Explains
-- a picture
pub mod Frame
pub mod Elements
pub mod Legend
pub mod OpenClose
