-- It has those that were tried and pass.
use Rattle.std.proofs.Common.{◌≡◌}
use Rattle.trace_model.specs.Ending.{mask_below, waits}
use Rattle.trace_model.proofs.stop.Stop.waiting.Given as goal

abbrev pub invariant-loop-cpu : goal.invariant-loop-cpu
invariant-loop-cpu l = l.mask ≡ mask_below (waits l.self) l.cpu
