use Rattle.std.proofs.Common.{◌≡◌, ◌-◌}
use Rattle.trace_model.specs.Stop.{first_from}
use Rattle.trace_ftrace.specs.Stops.{free_number, is_free}
use Rattle.trace_ftrace.proofs.stops.free_number.Given as goal

abbrev pub invariant-loop-number : goal.invariant-loop-number
invariant-loop-number l = first_from (is_free l.stops) l.number (64 - l.number) ≡ free_number l.stops
