use Rattle.smp_stop_steps.proofs.Promises.Functions.{has_functions}
use Rattle.smp_stop_steps.proofs.laws.functions_run.Goals as goal

pub returns : goal.returns
returns c u p at seat source h d call e = has_functions u p at seat source h d call e
