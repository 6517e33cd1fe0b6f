use Rattle.smp_stop_steps.proofs.Promises.Patchers.{stores_patch}
use Rattle.smp_stop_steps.proofs.laws.label_stores_patch.Goals as goal

pub returns : goal.returns
returns c u p at seat source h control me sits stage is change e = stores_patch u p at seat source h control me sits stage is change e
