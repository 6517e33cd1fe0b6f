use Rattle.std.proofs.Common.{◌≡◌, ◌≤◌, ◌+◌, ◌^◌, length}
use Rattle.smp_script.specs.Lines.{lines_of}
use Rattle.trace_ftrace.specs.Text.{line_from}
use Rattle.trace_ftrace.proofs.verdict_text.line_text.Given as goal

abbrev pub invariant-loop-next : goal.invariant-loop-next
invariant-loop-next l = (line_from l.at l.number (lines_of l.rest) ≡ line_from 1 l.fn.number (lines_of l.fn.text))
    × (l.at + length l.rest ≤ 2 ^ 63 + 1)

abbrev pub decreases-loop-next : goal.decreases-loop-next
decreases-loop-next l = length l.rest
