use Rattle.std.proofs.Common.{◌≡◌, ◌≤◌, drop, length}
use Rattle.trace_ftrace.specs.Placing.{behind_step}
use Rattle.trace_ftrace.proofs.placing.behind_step.Given as goal

abbrev pub invariant-loop-place : goal.invariant-loop-place
invariant-loop-place l = (behind_step l.at (drop l.place l.steps) ≡ 0) × (l.place ≤ length l.steps)

abbrev pub decreases-loop-place : goal.decreases-loop-place
decreases-loop-place l = l.place
