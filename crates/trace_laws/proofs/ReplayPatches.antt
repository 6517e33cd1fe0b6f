pub mod OnePatcher
pub mod PlannedStores
pub mod PatchEvents
pub mod BegunPatches
pub mod StoredWords
pub mod PatchSteps
pub mod AckSteps
