use Rattle.std.proofs.Common.{◌≡◌, length}
use Rattle.trace_ftrace.specs.Verdict.{goes_all}
use Rattle.trace_ftrace.proofs.verdict.goes_all.Given as goal

abbrev pub invariant-loop-rest : goal.invariant-loop-rest
invariant-loop-rest g l = goes_all l.rest l.state ≡ goes_all l.fn.told l.initial.state

abbrev pub decreases-loop-rest : goal.decreases-loop-rest
decreases-loop-rest g l = length l.rest
