-- lists and rows
pub mod Basics
-- facts of the state
pub mod State
-- kinds of step, and what each leaves as it was
pub mod Steps
-- what a CPU knows
pub mod Knows
-- the laws of steps
pub mod StepLaws
-- the machine: a list of words, and a list of controls
pub mod Machine
-- the laws
pub mod Promises
pub mod Headline
pub mod StepsKeep
pub mod StepsAgree
pub mod ReachedLaws
pub mod Broken
