use Rattle.std.proofs.Common.{◌≡◌, ◌+◌, ◌≤◌, count_by, length}
use Rattle.trace_ftrace.specs.Counts.{is_begin}
use Rattle.trace_ftrace.specs.declared.told.Told.{Told}
use Rattle.trace_ftrace.proofs.counts.begun.Given as goal

abbrev pub invariant-loop-rest : goal.invariant-loop-rest
invariant-loop-rest l = (l.count + count_by (λ (x : Told). is_begin x.event) l.rest ≡ count_by (λ (x : Told). is_begin x.event) l.fn.told)
    × (l.count + length l.rest ≤ length l.fn.told)

abbrev pub decreases-loop-rest : goal.decreases-loop-rest
decreases-loop-rest l = length l.rest
