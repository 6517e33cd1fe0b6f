pub mod Forms
pub mod Rows
pub mod Words
pub mod ReplayRows
pub mod RunRows
