use Rattle.smp_stop_steps.proofs.Steps.CallSteps.{call_step}
use Rattle.smp_stop_steps.proofs.laws.functions_run_once.Goals as goal

pub returns : goal.returns
returns c u p at seat source h control me sits carry stage e = (call_step u p at seat source h control me sits carry stage e).goes
