-- The steps so far.
use Rattle.std.proofs.Common.{◌≡◌, take}
use Rattle.trace_events.specs.ScriptTrace.{steps_of}
use Rattle.trace_events.proofs.script_trace.steps_of.Given as goal

abbrev pub invariant-loop-row : goal.invariant-loop-row
invariant-loop-row g l = l.steps.items ≡ steps_of (take l.row-index l.rows)
