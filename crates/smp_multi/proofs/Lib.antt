-- where words lie
pub mod Cells
-- the rule: each kind of access keeps it
pub mod Keeps
pub mod Carrying
pub mod Answered
-- how many steps
pub mod Counting
-- the steps of each call
pub mod Gates
pub mod Entering
pub mod Beginning
pub mod Running
pub mod Turning
pub mod Planning
pub mod Patching
pub mod Completing
pub mod Polling
-- a table as it is made, and its CPUs
pub mod Starting
pub mod Seating
-- a CPU between two calls
pub mod Kept
pub mod Advancing
pub mod Finishing
pub mod Showing
pub mod Calls
-- two CPUs at one moment
pub mod Together
-- readings and nudges of keys
pub mod Reading
pub mod Nudging
pub mod LabelLaws
pub mod PatchLaws
