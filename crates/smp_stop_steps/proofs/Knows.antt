-- What a CPU knows.
pub mod Parts
pub mod KnownSources
pub mod KnownRounds
pub mod KnownEnds
pub mod KnownLabels
pub mod KnownMoves
pub mod KnownSteps
