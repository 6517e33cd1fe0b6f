-- How many events a page shows.
use Rattle.std.specs.Prelude.{◌≡◌, ℕ, ◌+◌, Bool, true, false, List, [], ◌∷◌, Result, Ok, Err, IsErr}
use Rattle.trace_model.specs.State.{StateValue}
use Rattle.trace_judge.specs.declared.early_end.EarlyEnd.{EarlyEnd}
use Rattle.trace_ftrace.specs.Verdict.{goes_one}
use Rattle.trace_ftrace.specs.declared.told.Told.{Told}

-- a number that depends on the state after an event; none where there is no step
abbrev pub count_after : Result StateValue EarlyEnd → (StateValue → ℕ) → ℕ
count_after (Ok s) count = count s
count_after (Err why) count = 0

-- how many events there are up to the first one that the model has no step for, with it
abbrev pub shown_count : List Told → StateValue → ℕ
shown_count [] s = 0
shown_count (x ∷ xs) s = 1 + count_after (goes_one x s) (shown_count xs)

-- a step was made and leads there, or there is none, or memory ran out
abbrev pub Goes : {E : Type 0} → Result Bool E → StateValue → Result StateValue EarlyEnd → Type 0
Goes (Ok true) new made = made ≡ Ok new
Goes (Ok false) new made = IsErr made
Goes (Err error) new made = Unit {0}
