pub mod LabelWriting
pub mod LineWriting
pub mod Writing
pub mod CanonicalTexts
