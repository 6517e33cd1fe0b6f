use Rattle.smp_call_steps.proofs.StepLaws.Tries.{tries_go}
use Rattle.smp_call_steps.proofs.laws.tries_go_on.Goals as goal

pub returns : goal.returns
returns c a at control shown me stage e = tries_go a at control shown me stage e
