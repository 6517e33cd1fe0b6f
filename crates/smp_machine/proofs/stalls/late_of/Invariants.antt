use Rattle.std.proofs.Common.{◌≡◌, ℕ, true}
use Rattle.smp_mask.specs.Mask.{has}
use Rattle.smp_machine.proofs.stalls.late_of.Given as goal

abbrev pub invariant-loop-cpu : goal.invariant-loop-cpu
invariant-loop-cpu l = (c : ℕ) → has l.late c ≡ true → has l.fn.online c ≡ true
