-- What is written, and what the steps that are left tell, is the whole.
use Rattle.std.proofs.Common.{◌≡◌, ◌++◌, drop, string_bytes}
use Rattle.trace_events.specs.Traces.{all_fresh, events_of, lines_text}
use Rattle.trace_events.proofs.trace.write_steps.Given as goal

abbrev pub invariant-loop-step : goal.invariant-loop-step
invariant-loop-step g l =
    string_bytes l.out ++ lines_text (events_of l.pasts (drop l.step-index l.steps)) ≡ string_bytes l.initial.out ++ lines_text (events_of all_fresh l.steps)
