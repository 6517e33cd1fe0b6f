use Rattle.smp_mask.specs.declared.mask.TheConstants.{NR_CPUS}
use Rattle.smp_mask.proofs.Canonical.{canonical, only_canonical}
use Rattle.smp_mask.proofs.laws.lists_are_canonical.Goals as goal

pub returns-clause-canonical : goal.returns-clause-canonical
returns-clause-canonical c = canonical NR_CPUS

pub returns-clause-only : goal.returns-clause-only
returns-clause-only c = λ mask items fits h. only_canonical NR_CPUS mask fits items h
