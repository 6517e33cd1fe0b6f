use Rattle.std.proofs.Common.{◌≡◌, ◌++◌, length}
use Rattle.trace_ftrace.specs.Bounds.{bounds_of}
use Rattle.trace_ftrace.proofs.bounds.bounds_of.Given as goal

abbrev pub invariant-loop-rest : goal.invariant-loop-rest
invariant-loop-rest g l = l.bounds.items ++ bounds_of l.rest ≡ bounds_of l.fn.marks

abbrev pub decreases-loop-rest : goal.decreases-loop-rest
decreases-loop-rest g l = length l.rest
