pub mod AllEvents
pub mod AcceptedReplays
