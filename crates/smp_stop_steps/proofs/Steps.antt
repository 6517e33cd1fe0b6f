-- Kinds of step, and the steps of the commands by their stages.
-- kinds of step
pub mod Same
pub mod Kept
pub mod Callings
pub mod Rounds
pub mod Completions
pub mod Sources
pub mod Patching
pub mod Nudging
pub mod Facts
-- the steps of the commands, by their stages
pub mod Stages
pub mod StageSteps
pub mod RoundSteps
pub mod AckSteps
pub mod CompletionSteps
pub mod CallSteps
pub mod NoteSteps
pub mod StateWords
pub mod AnswerWords
