use Rattle.std.proofs.Common.{arith}
use Rattle.smp_mask.specs.declared.mask.TheConstants.{NR_CPUS}
use Rattle.smp_mask.proofs.Canonical.{reads_back}
use Rattle.smp_mask.proofs.laws.lists_read_back.Goals as goal

pub returns : goal.returns
returns c = reads_back NR_CPUS (omega arith)
