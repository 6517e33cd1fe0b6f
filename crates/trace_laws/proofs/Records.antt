pub mod RecordMoves
pub mod EventPlaces
pub mod OnePlace
pub mod RecordTurns
