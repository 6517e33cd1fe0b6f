use Rattle.std.proofs.Common.{◌≡◌, map, length}
use Rattle.trace_ftrace.specs.Headings.{heading_from, heading_of}
use Rattle.trace_ftrace.proofs.heading.find_heading.Given as goal

abbrev pub invariant-loop-rest : goal.invariant-loop-rest
invariant-loop-rest l = heading_from l.task (map (λ w. w.now) l.rest) ≡ heading_of (map (λ w. w.now) l.fn.words)

abbrev pub decreases-loop-rest : goal.decreases-loop-rest
decreases-loop-rest l = length l.rest
