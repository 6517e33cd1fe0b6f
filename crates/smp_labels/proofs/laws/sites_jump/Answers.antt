use Rattle.smp_labels.proofs.Sites.{jumps}
use Rattle.smp_labels.proofs.laws.sites_jump.Goals as goal

pub returns : goal.returns
returns c t l i k small = jumps t l i k small
