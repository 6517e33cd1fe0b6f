use Rattle.std.proofs.Common.{arith}
use Rattle.smp_mask.specs.declared.mask.TheConstants.{NR_CPUS}
use Rattle.smp_mask.proofs.Sets.{has_without, has_without_none}
use Rattle.smp_mask.proofs.mask.CpuMask.without.Goals as goal

pub returns-then-cpu-ge-NR_CPUS : goal.returns-then-cpu-ge-NR_CPUS
returns-then-cpu-ge-NR_CPUS c = λ q. rw (← c.self.view_is) (has_without_none NR_CPUS _ _ q c.self.invariant c.if-cpu-ge-NR_CPUS.true)

pub returns : goal.returns
returns c = λ q. rw (← c.self.view_is) (has_without NR_CPUS _ _ q (omega arith) c.self.invariant c.if-cpu-ge-NR_CPUS.false)
