use Rattle.smp_stop_steps.proofs.Promises.Patchers.{has_patcher}
use Rattle.smp_stop_steps.proofs.laws.patchers_run.Goals as goal

pub returns : goal.returns
returns c u p at seat source h d work count made rest e = has_patcher u p at seat source h d work count made rest e
