use Rattle.std.proofs.Common.{◌≡◌, ◌++◌, ◌+◌, drop}
use Rattle.trace_events.specs.Moments.{moments_of}
use Rattle.trace_events.proofs.moments.moments.Given as goal

abbrev pub invariant-loop-directive : goal.invariant-loop-directive
invariant-loop-directive g l = record {
  moments : l.found.items ++ moments_of l.line (drop l.directive-index l.directives) ≡ moments_of l.fn.first l.directives;
  line : l.line ≡ l.fn.first + l.directive-index;
}
