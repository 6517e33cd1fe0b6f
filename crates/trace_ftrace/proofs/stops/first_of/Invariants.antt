use Rattle.std.proofs.Common.{◌≡◌, ◌-◌}
use Rattle.smp_mask.specs.Mask.{has}
use Rattle.trace_model.specs.Stop.{first_from, first_of}
use Rattle.trace_ftrace.proofs.stops.first_of.Given as goal

abbrev pub invariant-loop-cpu : goal.invariant-loop-cpu
invariant-loop-cpu l = first_from (λ c. has l.mask c) l.cpu (32 - l.cpu) ≡ first_of l.mask
