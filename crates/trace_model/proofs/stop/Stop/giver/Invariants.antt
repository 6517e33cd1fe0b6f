-- None of the CPUs that were tried passes.
use Rattle.std.proofs.Common.{◌≡◌, ◌-◌, ◌&&◌}
use Rattle.smp_mask.specs.Mask.{has}
use Rattle.trace_model.specs.Stop.{answer_of, first_from, giver, is_answer, is_same}
use Rattle.trace_model.proofs.stop.Stop.giver.Given as goal

abbrev pub invariant-loop-cpu : goal.invariant-loop-cpu
invariant-loop-cpu l =
    first_from (λ c. has l.self.task.mask c && is_same (is_answer (answer_of l.self c) l.answer) l.same) l.cpu (32 - l.cpu)
    ≡ giver l.self l.answer l.same
