use Rattle.std.proofs.Common.{◌≡◌, ◌≤◌, length}
use Rattle.trace_page.specs.Grids.{lanes_below}
use Rattle.trace_page.proofs.grid.lanes_of.Given as goal

abbrev pub invariant-loop-cpu : goal.invariant-loop-cpu
invariant-loop-cpu g l = (l.found.items ≡ lanes_below l.events l.cpu) × (length l.found.items ≤ l.cpu)
