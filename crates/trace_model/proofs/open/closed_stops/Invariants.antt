-- That number of stops was made.
use Rattle.std.proofs.Common.{◌≡◌, replicate}
use Rattle.trace_model.specs.Stop.{closed}
use Rattle.trace_model.proofs.open.closed_stops.Given as goal

abbrev pub invariant-loop-number : goal.invariant-loop-number
invariant-loop-number g l = l.stops.items ≡ replicate l._number (closed l.mask)
