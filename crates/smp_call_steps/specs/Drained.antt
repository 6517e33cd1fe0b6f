-- What holds of a drained machine, and how long a queue can be.
use Rattle.std.specs.Prelude.{ℕ, ◌≤◌, length}
use Rattle.smp_call_steps.specs.State.{CallState}
use Rattle.smp_call_steps.specs.Headline.{RunEqualQueued}
use Rattle.smp_call_steps.specs.Shows.{Shows}
use Rattle.smp_call_steps.specs.Stages.{ControlValue}
use Rattle.smp_call_steps.specs.Names.{Word}
pub use Rattle.smp_call_steps.specs.Headline.{IsDrained}

-- what is queued has run, and the two counts of it are equal
abbrev pub DrainedRunsAll : Type 0
DrainedRunsAll = (a : CallState) (at : Word → ℕ) (control : ℕ → ControlValue) → Shows a at control → RunEqualQueued a at

-- a queue has no more calls than there are records, so that a walk along its links ends
abbrev pub QueuesAreShort : Type 0
QueuesAreShort = (a : CallState) (at : Word → ℕ) (control : ℕ → ControlValue) → Shows a at control → (cpu : ℕ) → length (a.queue cpu) ≤ 1152
