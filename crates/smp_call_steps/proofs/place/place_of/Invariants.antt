use Rattle.std.proofs.Common.{◌≡◌, ℕ, ◌<◌, None}
use Rattle.smp_call_steps.specs.{CallState, ValuesShow, place_below}
use Rattle.smp_call_steps.proofs.State.Places.{IsNotOn}
use Rattle.smp_call_steps.proofs.place.place_of.Given as goal

abbrev pub invariant-loop-cpu : goal.invariant-loop-cpu
invariant-loop-cpu l = ((k : ℕ) → k < l.cpu → (calls : CallState) → ValuesShow calls l.words l.controls → IsNotOn k (calls.place l.id)) ×
    (place_below l.words l.controls l.id l.cpu ≡ None)
