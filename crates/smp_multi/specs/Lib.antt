-- types by their names
pub mod Names
-- where words lie
pub mod Cells
-- the rule, what a CPU knows by it, and what each kind of access tells
pub mod Lives
pub mod Rule
pub mod Plays
-- a CPU at the table, between two steps
pub mod Seat
pub mod StepCounts
pub mod Places
pub mod Begins
pub mod Running
pub mod Rounds
pub mod Turns
pub mod Patches
pub mod Completes
pub mod Polls
-- a table and a CPU between two calls, and what each call answers
pub mod Cpu
pub mod Table
pub mod Answers
pub mod Advance
-- the same step by step, with the CPU by value
pub mod AtCall
pub mod ByValue
-- what holds while threads run
pub mod Laws
pub mod CallLaws
pub mod AnswerLaws
pub mod Together
-- readings and nudges of keys
pub mod Reads
pub mod Nudges
pub mod LabelLaws
pub mod PatchLaws
