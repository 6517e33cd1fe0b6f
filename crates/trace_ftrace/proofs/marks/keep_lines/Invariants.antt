use Rattle.std.proofs.Common.{◌≡◌, ◌≤◌, ◌+◌, length}
use Rattle.smp_script.specs.Lines.{lines_of}
use Rattle.trace_ftrace.specs.KeptView.{kept_value}
use Rattle.trace_ftrace.specs.Marks.{lines_kept}
use Rattle.trace_ftrace.proofs.marks.keep_lines.Given as goal

abbrev pub invariant-loop-next : goal.invariant-loop-next
invariant-loop-next g l = (lines_kept l.skip l.number (lines_of l.rest) (kept_value l.kept) ≡ lines_kept l.fn.skip l.fn.first (lines_of l.fn.text)
    (kept_value l.initial.kept))
    × (l.number + length l.rest ≤ l.fn.first + length l.fn.text)

abbrev pub decreases-loop-next : goal.decreases-loop-next
decreases-loop-next g l = length l.rest
