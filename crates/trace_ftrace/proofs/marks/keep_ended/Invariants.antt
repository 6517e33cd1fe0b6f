use Rattle.std.proofs.Common.{◌≤◌, ◌+◌, length}
use Rattle.trace_ftrace.specs.KeptView.{kept_value}
use Rattle.trace_ftrace.specs.Pieces.{GoesOn}
use Rattle.trace_ftrace.proofs.marks.keep_ended.Given as goal

abbrev pub invariant-loop-next : goal.invariant-loop-next
invariant-loop-next g l = GoesOn l.fn.skip l.fn.first l.fn.text (kept_value l.initial.kept) l.number l.rest (kept_value l.kept)
    × (l.number + length l.rest ≤ l.fn.first + length l.fn.text)

abbrev pub decreases-loop-next : goal.decreases-loop-next
decreases-loop-next g l = length l.rest
