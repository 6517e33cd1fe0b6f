use Rattle.std.proofs.Common.{arith}
use Rattle.smp_mask.specs.declared.mask.TheConstants.{NR_CPUS}
use Rattle.smp_mask.proofs.Sets.{first_is, first_below}
use Rattle.smp_mask.proofs.mask.CpuMask.first.Goals as goal

pub returns-else-self-eq0-clause-least : goal.returns-else-self-eq0-clause-least
returns-else-self-eq0-clause-least c = rw (← c.self.view_is) (first_is _ (omega (arith, c.self.invariant)) (omega arith))

pub returns-else-self-eq0-clause-within : goal.returns-else-self-eq0-clause-within
returns-else-self-eq0-clause-within c = first_below NR_CPUS _ (omega arith) c.self.invariant (omega arith)
