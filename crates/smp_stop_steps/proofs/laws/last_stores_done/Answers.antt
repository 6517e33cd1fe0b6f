use Rattle.smp_stop_steps.proofs.Promises.Functions.{last_stores}
use Rattle.smp_stop_steps.proofs.laws.last_stores_done.Goals as goal

pub returns : goal.returns
returns c u p at seat source h s op none undone = last_stores u p at seat source h s op none undone
