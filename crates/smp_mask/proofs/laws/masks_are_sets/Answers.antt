use Rattle.smp_mask.proofs.Sets.{same_members}
use Rattle.smp_mask.proofs.laws.masks_are_sets.Goals as goal

pub returns : goal.returns
returns c = same_members
