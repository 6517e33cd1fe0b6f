use Rattle.std.proofs.Common.{◌≡◌, length}
use Rattle.trace_ftrace.specs.Stops.{queued_data}
use Rattle.trace_ftrace.proofs.stops.queued_data.Given as goal

abbrev pub invariant-loop-rest : goal.invariant-loop-rest
invariant-loop-rest l = queued_data l.task l.rest ≡ queued_data l.fn.task l.fn.marks

abbrev pub decreases-loop-rest : goal.decreases-loop-rest
decreases-loop-rest l = length l.rest
