use Rattle.std.proofs.Common.{arith}
use Rattle.smp_mask.specs.declared.mask.TheConstants.{NR_CPUS}
use Rattle.smp_mask.proofs.Sets.{has_with, with_below}
use Rattle.smp_mask.proofs.mask.CpuMask.with.Goals as goal

pub invariant_of-result : goal.invariant_of-result
invariant_of-result c = with_below NR_CPUS _ _ (omega arith) c.self.invariant c.if-cpu-ge-NR_CPUS.false

pub returns-clause-members : goal.returns-clause-members
returns-clause-members c = λ q. rw (← c.self.view_is) (has_with _ _ q (omega (arith, c.if-cpu-ge-NR_CPUS.false)))
