use Rattle.std.proofs.Common.{◌≡◌, ◌++◌}
use Rattle.trace_events.specs.Moments.{steps_at}
use Rattle.trace_events.proofs.moments.add_steps.Given as goal

abbrev pub invariant-loop-step : goal.invariant-loop-step
invariant-loop-step g l = l.found.items ≡ l.initial.found.items ++ steps_at l.line l.cpu l._step
