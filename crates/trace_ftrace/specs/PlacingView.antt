-- What is placed, as that of the definitions.
use Rattle.trace_ftrace.specs.Placing.{PlacingValue}
use Rattle.trace_ftrace.specs.declared.placing.Placing.{Placing}

abbrev pub placing_value : {A : Type 0} → Placing A → PlacingValue
placing_value p = record { rest = p.rest.now; bounds = p.bounds.now; steps = p.steps.items }
