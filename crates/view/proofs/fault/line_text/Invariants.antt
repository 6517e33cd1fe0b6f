use Rattle.std.proofs.Common.{◌-◌, ◌≤◌}
use Rattle.smp_script.specs.Lines.{lines_of}
use Rattle.view.proofs.LinesOn.{AreFrom}
use Rattle.view.proofs.fault.line_text.Given as goal

abbrev pub invariant-loop-line : goal.invariant-loop-line
invariant-loop-line l =
    (1 ≤ l._line) × ((l._line - 1 ≤ l.fn.line - 1) × AreFrom (lines_of l.text) (l._line - 1) (lines_of l.rest))
