-- The step that a CPU makes at each stage, and what follows it.
use Rattle.std.specs.Prelude.{ℕ, ◌%◌, ◌==◌, if◌then◌else◌, Option}
use Rattle.smp_call_steps.specs.Posts.{ends, post_access, post_outcome}
use Rattle.smp_call_steps.specs.Drains.{DrainValue, source_at, handle_access, handle_outcome, drain_after, FitsFound, RoomAt}
use Rattle.smp_call_steps.specs.Names.{Word, Intr, Queued, Ran, Flags, Access, Load, Store, CallOutcome, Stage, Send, Done, Post, Handle}
use Rattle.smp_call_steps.specs.Names.note

-- where a CPU is: its stage, none outside a command, and its drain
pub record ControlValue : Type 0 where
  pub stage : Option Stage
  pub drain : DrainValue

-- the access that a CPU makes next
abbrev pub access_of : (Word → ℕ) → ℕ → Stage → Access
access_of at me (Send to) = Store (Intr to) 1
access_of at me (Done id) = Load (Flags id)
access_of at me (Post p stage) = post_access p me stage (at (Queued me p.to))
access_of at me (Handle stage) = handle_access me stage (at (Ran me (source_at stage)))

-- what follows, by the number that the access found
abbrev pub outcome_of : DrainValue → Stage → ℕ → CallOutcome
outcome_of d (Send to) found = ends note.Sent
outcome_of d (Done id) found = ends (if found % 2 == 1 then note.Locked else note.Done)
outcome_of d (Post p stage) found = post_outcome p stage found
outcome_of d (Handle stage) found = handle_outcome d stage found

-- the drain after the step
abbrev pub drain_of : DrainValue → Stage → ℕ → DrainValue
drain_of d (Handle stage) found = drain_after d stage found
drain_of d _ found = d

-- where the CPU is after the step
abbrev pub control_after : ControlValue → Stage → ℕ → ControlValue
control_after c stage found = record { stage = (outcome_of c.drain stage found).next; drain = drain_of c.drain stage found }

-- the number found fits, and there is room for what it makes
abbrev pub FitsStage : DrainValue → Stage → ℕ → Type 0
FitsStage d (Handle stage) found = FitsFound stage found × RoomAt d stage
FitsStage d _ found = Unit {0}
