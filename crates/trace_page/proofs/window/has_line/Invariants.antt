use Rattle.std.proofs.Common.{◌≡◌, ◌≤◌, ◌+◌, length}
use Rattle.smp_script.specs.Lines.{lines_of}
use Rattle.trace_page.proofs.window.has_line.Given as goal

abbrev pub invariant-loop-first : goal.invariant-loop-first
invariant-loop-first l =
    (l.fn.line ≡ 0 → l.left ≡ 0)
    × (1 ≤ l.fn.line → (1 ≤ l.left) × (l.fn.line + length (lines_of l.rest) ≡ l.left + length (lines_of l.fn.text)))

abbrev pub decreases-loop-first : goal.decreases-loop-first
decreases-loop-first l = length l.rest
