use Rattle.std.proofs.Common.{◌≡◌, length}
use Rattle.trace_ftrace.specs.Kept.{on_cpu}
use Rattle.trace_ftrace.proofs.kept.on_cpu.Given as goal

abbrev pub invariant-loop-rest : goal.invariant-loop-rest
invariant-loop-rest l = on_cpu l.cpu l.rest ≡ on_cpu l.fn.cpu l.fn.marks

abbrev pub decreases-loop-rest : goal.decreases-loop-rest
decreases-loop-rest l = length l.rest
