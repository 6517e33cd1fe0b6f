use Rattle.smp_stop_steps.proofs.Promises.Functions.{runs_alone}
use Rattle.smp_stop_steps.proofs.laws.function_law.Goals as goal

pub returns : goal.returns
returns c u p at seat source h s me is = runs_alone u p at seat source h s me is
