use Rattle.smp_call_steps.proofs.StepLaws.Functions.{function_goes}
use Rattle.smp_call_steps.proofs.laws.functions_run_once.Goals as goal

pub returns : goal.returns
returns c a at control shown me stage e = function_goes a at control shown me stage e
