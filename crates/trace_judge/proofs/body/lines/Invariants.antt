-- The lines that are still to come lead from here to the same verdict.
use Rattle.std.proofs.Common.{◌≡◌, ◌≤◌, length}
use Rattle.smp_script.specs.Lines.{lines_of}
use Rattle.trace_judge.specs.Judged.{judged}
use Rattle.trace_judge.proofs.body.lines.Given as goal

abbrev pub invariant-loop-next : goal.invariant-loop-next
invariant-loop-next g l =
    (judged l.setting l.number l.used l.events (lines_of l.rest) l.state
    ≡ judged l.setting l.fn.cursor.number l.fn.cursor.used 0 (lines_of l.fn.cursor.rest.now) l.initial.state)
    × (l.used ≤ 16777216) × (l.number ≤ 1000001) × (l.events ≤ l.number)

abbrev pub decreases-loop-next : goal.decreases-loop-next
decreases-loop-next g l = length l.rest
