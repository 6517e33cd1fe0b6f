use Rattle.std.proofs.Common.{◌≡◌, ◌≤◌, drop, length}
use Rattle.trace_ftrace.specs.Kept.{behind}
use Rattle.trace_ftrace.proofs.kept.behind.Given as goal

abbrev pub invariant-loop-at : goal.invariant-loop-at
invariant-loop-at l = (behind l.time (drop l.at l.marks) ≡ 0) × (l.at ≤ length l.marks)

abbrev pub decreases-loop-at : goal.decreases-loop-at
decreases-loop-at l = l.at
