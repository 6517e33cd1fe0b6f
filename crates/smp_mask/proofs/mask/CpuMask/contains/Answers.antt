use Rattle.std.proofs.Common.{arith}
use Rattle.std.proofs.lemmas.Bool.Decides.{nat_tests}
use Rattle.smp_mask.specs.declared.mask.TheConstants.{NR_CPUS}
use Rattle.smp_mask.proofs.Sets.{has_above}
use Rattle.smp_mask.proofs.mask.CpuMask.contains.Goals as goal

pub returns-else-cpu-lt-NR_CPUS-clause-member : goal.returns-else-cpu-lt-NR_CPUS-clause-member
returns-else-cpu-lt-NR_CPUS-clause-member c = grind (arith, nat_tests, has_above NR_CPUS _ c.args.cpu c.self.invariant)
