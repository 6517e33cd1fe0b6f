pub mod ReadParts
pub mod LineReadings
pub mod LabelReadings
pub mod Readings
