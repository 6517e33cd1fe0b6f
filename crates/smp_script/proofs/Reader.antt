-- fields
pub mod FieldLists
pub mod FieldCounts
pub mod Items
pub mod Widths
-- lines
pub mod Versions
pub mod Online
pub mod ApartKeys
pub mod Directives
-- devices
pub mod Streams
