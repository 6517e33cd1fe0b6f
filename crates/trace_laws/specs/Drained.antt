-- What a trace that is drained shows.
use Rattle.std.specs.Prelude.{◌≡◌, ℕ, ◌<◌, List, map, IsPermutation}
use Rattle.trace_model.specs.declared.event.Event.{Event}
use Rattle.trace_model.specs.declared.without.Setting.{Setting}
use Rattle.trace_model.specs.Ending.{busy_of, heads_of, locked_of, queued_by, ran_of}
use Rattle.trace_model.specs.State.{StateValue}
use Rattle.trace_laws.specs.CallEvents.{ends, id_of, queued}

-- no call is queued, no record is locked, and no CPU handles an interrupt: the verdict says `drained`
pub record IsDrained (t : StateValue) : Type 0 where
  pub heads : heads_of t ≡ 0
  pub locked : locked_of t ≡ 0
  pub busy : busy_of t ≡ 0

-- Once all is drained, the calls that ended on a CPU are those that were queued for it, and both counts of each source are equal.
pub record RunEqualsQueued (es : List (ℕ × Event)) (t : StateValue) (cpu : ℕ) : Type 0 where
  pub ended : IsPermutation (map id_of (queued cpu es)) (ends cpu es)
  pub counts : (source : ℕ) → source < 512 → ran_of t source cpu ≡ queued_by t source cpu

abbrev pub DrainedEquals : Setting → List (ℕ × Event) → StateValue → ℕ → Type 0
DrainedEquals u es t cpu = IsDrained t → RunEqualsQueued es t cpu
