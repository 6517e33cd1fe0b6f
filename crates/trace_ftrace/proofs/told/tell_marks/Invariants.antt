use Rattle.std.proofs.Common.{◌≡◌, ◌≤◌, length}
use Rattle.trace_ftrace.specs.Told.{cpus_of, marks_told, no_records}
use Rattle.trace_ftrace.specs.ToldView.{telling_value}
use Rattle.trace_ftrace.proofs.told.tell_marks.Given as goal

abbrev pub invariant-loop-rest : goal.invariant-loop-rest
invariant-loop-rest g l = (marks_told l.rest (telling_value l.telling) ≡ marks_told l.fn.marks (no_records (cpus_of 0 l.fn.marks)))
    × (length l.telling.addresses ≤ 65536)

abbrev pub decreases-loop-rest : goal.decreases-loop-rest
decreases-loop-rest g l = length l.rest
