use Rattle.smp_call_steps.proofs.StepLaws.Premises.{may_make}
use Rattle.smp_call_steps.proofs.laws.steps_are_premised.Goals as goal

pub returns : goal.returns
returns c a at control shown me stage e = may_make a at control shown me stage e
