-- None of the CPUs that were tried passes.
use Rattle.std.proofs.Common.{◌≡◌, ◌-◌, ◌&&◌, not}
use Rattle.smp_mask.specs.Mask.{has}
use Rattle.trace_model.specs.Stop.{first_from, offline_in}
use Rattle.trace_model.proofs.stop.offline_in.Given as goal

abbrev pub invariant-loop-cpu : goal.invariant-loop-cpu
invariant-loop-cpu l = first_from (λ c. has l.mask c && not (has l.setting.online c)) l.cpu (32 - l.cpu) ≡ offline_in l.setting l.mask
