-- None of the CPUs that were tried passes.
use Rattle.std.proofs.Common.{◌≡◌, ◌-◌, ◌&&◌, is_none}
use Rattle.smp_mask.specs.Mask.{has}
use Rattle.trace_model.specs.Stop.{answer_of, first_from, unfinished}
use Rattle.trace_model.proofs.stop.Stop.unfinished.Given as goal

abbrev pub invariant-loop-cpu : goal.invariant-loop-cpu
invariant-loop-cpu l = first_from (λ c. has l.self.task.mask c && is_none (answer_of l.self c)) l.cpu (32 - l.cpu) ≡ unfinished l.self
