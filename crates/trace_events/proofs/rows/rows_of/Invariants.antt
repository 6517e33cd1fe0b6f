use Rattle.std.proofs.Common.{◌≡◌, ◌++◌, ◌≤◌, drop}
use Rattle.trace_events.specs.Rows.{rows_of}
use Rattle.trace_events.proofs.rows.rows_of.Given as goal

abbrev pub invariant-loop-moment : goal.invariant-loop-moment
invariant-loop-moment g l = record {
  rows : l.rows.items ++ rows_of l.core l.number (drop l.moment-index l.moments) ≡ rows_of l.initial.core 0 l.moments;
  number : l.number ≤ l.moment-index;
}
