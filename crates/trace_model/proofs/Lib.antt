pub mod Least
pub mod Lists
pub mod Made
pub mod Masks
pub mod Opened
