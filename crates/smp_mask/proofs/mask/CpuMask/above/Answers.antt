use Rattle.std.proofs.Common.{arith}
use Rattle.std.proofs.lemmas.Bool.Decides.{nat_tests}
use Rattle.smp_mask.specs.declared.mask.TheConstants.{NR_CPUS}
use Rattle.smp_mask.proofs.Sets.{has_after, and_below, has_above}
use Rattle.smp_mask.proofs.mask.CpuMask.above.Goals as goal

pub invariant_of-result : goal.invariant_of-result
invariant_of-result c = and_below NR_CPUS _ _ c.self.invariant

pub returns-then-cpu-ge-NR_CPUS : goal.returns-then-cpu-ge-NR_CPUS
returns-then-cpu-ge-NR_CPUS c = λ k. rw (← c.self.view_is) (grind (arith, nat_tests, has_above NR_CPUS _ k c.self.invariant, c.empty.ensures k))

pub returns : goal.returns
returns c = λ k. rw (← c.self.view_is) (has_after _ _ k (omega (arith, c.self.invariant)) (omega (arith, c.if-cpu-ge-NR_CPUS.false)))
