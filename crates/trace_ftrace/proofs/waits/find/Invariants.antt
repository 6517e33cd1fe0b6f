use Rattle.std.proofs.Common.{◌≡◌, ◌+◌, length}
use Rattle.trace_ftrace.specs.Waits.{found_from}
use Rattle.trace_ftrace.proofs.waits.find.Given as goal

abbrev pub invariant-loop-rest : goal.invariant-loop-rest
invariant-loop-rest l = (found_from l.place l.id l.cpu l.rest ≡ found_from 0 l.fn.id l.fn.cpu l.fn.calls) × (l.place + length l.rest ≡ length l.fn.calls)

abbrev pub decreases-loop-rest : goal.decreases-loop-rest
decreases-loop-rest l = length l.rest
