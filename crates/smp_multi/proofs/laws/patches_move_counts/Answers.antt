use Rattle.smp_multi.proofs.PatchLaws.{moves_by_change}
use Rattle.smp_multi.proofs.laws.patches_move_counts.Goals as goal

pub returns : goal.returns
returns c = moves_by_change
