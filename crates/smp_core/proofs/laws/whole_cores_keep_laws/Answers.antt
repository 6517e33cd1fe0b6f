use Rattle.smp_core.proofs.Whole.{whole_keeps}
use Rattle.smp_core.proofs.laws.whole_cores_keep_laws.Goals as goal

pub returns : goal.returns
returns c core w = whole_keeps core w
