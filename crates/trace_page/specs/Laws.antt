-- Events of the laws of pictures.
use Rattle.std.specs.Prelude.{ℕ, List, [], ◌∷◌, ◌++◌, ◌+◌, zero, suc}
use Rattle.trace_ftrace.specs.declared.told.Told.{Told}
use Rattle.trace_model.specs.declared.event.CallEvent.TheVariants as calls
use Rattle.trace_model.specs.declared.event.Event.TheVariants as event

-- an event of each of so many lines
abbrev pub lines_to : ℕ → List Told
lines_to zero = []
lines_to (suc n) = lines_to n ++ record { line = n + 1; cpu = 0; time = n; event = event.Call (calls.End 0) } ∷ []
