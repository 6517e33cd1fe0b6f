-- Runs of the model.
use Rattle.std.specs.Prelude.{◌≡◌, ℕ, List, [], ◌∷◌, Ok}
use Rattle.trace_model.specs.declared.event.Event.{Event}
use Rattle.trace_model.specs.State.{StateValue}
use Rattle.trace_model.specs.Step.{goes}

-- the model goes from one state to another by these events of CPUs
abbrev pub Runs : StateValue → List (ℕ × Event) → StateValue → Type 0
Runs s [] t = t ≡ s
Runs s (e ∷ es) t = (m : StateValue) × ((goes e.0 e.1 s ≡ Ok m) × Runs m es t)
