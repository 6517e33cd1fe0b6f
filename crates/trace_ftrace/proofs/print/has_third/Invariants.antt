-- The events that are left say the same.
use Rattle.std.proofs.Common.{◌≡◌, length}
use Rattle.trace_ftrace.specs.Print.{has_third}
use Rattle.trace_ftrace.proofs.print.has_third.Given as goal

abbrev pub invariant-loop-rest : goal.invariant-loop-rest
invariant-loop-rest l = has_third l.rest ≡ has_third l.fn.told

abbrev pub decreases-loop-rest : goal.decreases-loop-rest
decreases-loop-rest l = length l.rest
