-- lists
pub mod Zeros
-- words by name
pub mod Puts
pub mod SameWords
-- words by number
pub mod Sizes
pub mod Placing
pub mod Links
