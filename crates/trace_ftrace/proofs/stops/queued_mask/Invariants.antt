use Rattle.std.proofs.Common.{◌≡◌, length}
use Rattle.trace_ftrace.specs.Stops.{queued_mask}
use Rattle.trace_ftrace.proofs.stops.queued_mask.Given as goal

abbrev pub invariant-loop-rest : goal.invariant-loop-rest
invariant-loop-rest l = queued_mask l.task l.mask l.rest ≡ queued_mask l.fn.task l.fn.from l.fn.marks

abbrev pub decreases-loop-rest : goal.decreases-loop-rest
decreases-loop-rest l = length l.rest
