-- What an audit and the laws tell.
pub mod Auditing
pub mod Closed
pub mod Showing
