use Rattle.smp_stop_steps.proofs.Promises.StopLaws.{keeps_laws}
use Rattle.smp_stop_steps.proofs.laws.stop_laws.Goals as goal

pub returns : goal.returns
returns c u p at seat source h = keeps_laws u p at seat source h
