use Rattle.std.proofs.Common.{◌≡◌, ◌+◌, ◌≤◌, count_by, length}
use Rattle.trace_ftrace.specs.Counts.{is_counted}
use Rattle.trace_ftrace.proofs.counts.how_many.Given as goal

abbrev pub invariant-loop-rest : goal.invariant-loop-rest
invariant-loop-rest l = (l.count + count_by (is_counted l.what) l.rest ≡ count_by (is_counted l.fn.what) l.fn.marks)
    × (l.count + length l.rest ≤ length l.fn.marks)

abbrev pub decreases-loop-rest : goal.decreases-loop-rest
decreases-loop-rest l = length l.rest
