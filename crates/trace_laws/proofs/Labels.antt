pub mod Patches
pub mod PatchEvents
pub mod PatchPhases
pub mod PatchStores
pub mod StoredWords
pub mod LawfulLabels
