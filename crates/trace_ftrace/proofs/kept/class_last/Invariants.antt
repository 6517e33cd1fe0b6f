use Rattle.std.proofs.Common.{◌≡◌, ◌≤◌, false, drop, length}
use Rattle.trace_ftrace.specs.Kept.{has_queue}
use Rattle.trace_ftrace.proofs.kept.class_last.Given as goal

abbrev pub invariant-loop-at : goal.invariant-loop-at
invariant-loop-at l = (has_queue l.cpu l.address (drop l.at l.marks) ≡ false) × (l.at ≤ length l.marks) × (l.marks ≡ l.initial.marks)

abbrev pub decreases-loop-at : goal.decreases-loop-at
decreases-loop-at l = l.at
