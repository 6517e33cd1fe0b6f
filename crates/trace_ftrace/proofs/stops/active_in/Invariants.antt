use Rattle.std.proofs.Common.{◌≡◌}
use Rattle.trace_model.specs.Ending.{mask_below}
use Rattle.trace_ftrace.specs.Stops.{is_active}
use Rattle.trace_ftrace.proofs.stops.active_in.Given as goal

abbrev pub invariant-loop-cpu : goal.invariant-loop-cpu
invariant-loop-cpu l = l.active ≡ mask_below (is_active l.mask l.bits) l.cpu
