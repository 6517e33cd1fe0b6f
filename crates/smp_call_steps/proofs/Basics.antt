-- Lists and rows.
pub mod Alls
pub mod Lists
pub mod Rows
pub mod Short
