use Rattle.std.proofs.Common.{arith}
use Rattle.smp_mask.proofs.Members.{members_fit}
use Rattle.smp_mask.specs.declared.mask.TheConstants.{NR_CPUS}
use Rattle.smp_mask.proofs.Sets.{weight_is}
use Rattle.smp_mask.proofs.mask.CpuMask.weight.Goals as goal

pub returns-clause-count : goal.returns-clause-count
returns-clause-count c = rw (← c.self.view_is) (weight_is NR_CPUS _ c.self.invariant)

pub returns-clause-within : goal.returns-clause-within
returns-clause-within c = omega (arith, weight_is NR_CPUS _ c.self.invariant, members_fit c.self.inside.bits NR_CPUS)
