use Rattle.std.proofs.Common.{◌≡◌, length, map}
use Rattle.trace_ftrace.specs.Verdict.{goes_all}
use Rattle.trace_ftrace.proofs.ordered.goes_steps.Given as goal

abbrev pub invariant-loop-rest : goal.invariant-loop-rest
invariant-loop-rest g l = goes_all (map (λ s. s.told) l.rest) l.state ≡ goes_all (map (λ s. s.told) l.fn.steps) l.initial.state

abbrev pub decreases-loop-rest : goal.decreases-loop-rest
decreases-loop-rest g l = length l.rest
