-- what events tell of calls, of records, of stops and of labels
pub mod CallEvents
pub mod CallHistory
pub mod Places
pub mod RecordTurns
pub mod StopEvents
pub mod OpenStops
pub mod StopResults
pub mod Phases
pub mod LawfulLabels
-- the laws of traces, and of accepted texts
pub mod Traces
pub mod Drained
pub mod Targets
pub mod AcceptedTexts
pub mod ReadVersions
pub mod LostQueues
pub mod Interrupts
pub mod HandledCalls
-- a state of the model that agrees with a machine
pub mod AgreeingCalls
pub mod AgreeingStops
pub mod AgreeingPatches
-- the laws of replays, and of their texts
pub mod AcceptedReplays
pub mod ReplayTexts
