use Rattle.std.proofs.Common.{◌≡◌, ◌+◌, length}
use Rattle.trace_ftrace.specs.Stops.{found_from}
use Rattle.trace_ftrace.proofs.stops.find.Given as goal

abbrev pub invariant-loop-rest : goal.invariant-loop-rest
invariant-loop-rest l = (found_from l.place l.wanted l.rest ≡ found_from 0 l.fn.wanted l.fn.stops) × (l.place + length l.rest ≡ length l.fn.stops)

abbrev pub decreases-loop-rest : goal.decreases-loop-rest
decreases-loop-rest l = length l.rest
