use Rattle.std.proofs.Common.{◌≡◌, length}
use Rattle.trace_ftrace.specs.Told.{cpus_of}
use Rattle.trace_ftrace.proofs.told.cpus_of.Given as goal

abbrev pub invariant-loop-rest : goal.invariant-loop-rest
invariant-loop-rest l = cpus_of l.cpus l.rest ≡ cpus_of 0 l.fn.marks

abbrev pub decreases-loop-rest : goal.decreases-loop-rest
decreases-loop-rest l = length l.rest
