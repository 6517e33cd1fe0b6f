-- what a CPU has done before, and the events that its next step tells
pub mod Past
pub mod StepEvents
-- lines
pub mod Text
pub mod Front
-- the trace of steps
pub mod Traces
-- a script's replay, row by row, and its trace
pub mod Moments
pub mod Rows
pub mod Replays
pub mod ScriptTrace
