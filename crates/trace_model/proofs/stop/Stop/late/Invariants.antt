-- None of the CPUs that were tried passes.
use Rattle.std.proofs.Common.{◌≡◌, ◌-◌, ◌&&◌, nat_lt}
use Rattle.smp_mask.specs.Mask.{has}
use Rattle.trace_model.specs.Stop.{acked_by, first_from, late}
use Rattle.trace_model.proofs.stop.Stop.late.Given as goal

abbrev pub invariant-loop-cpu : goal.invariant-loop-cpu
invariant-loop-cpu l = first_from (λ c. has l.self.task.mask c && nat_lt (acked_by l.self c) l.phase) l.cpu (32 - l.cpu) ≡ late l.self l.phase
