use Rattle.smp_stop_steps.proofs.Promises.Premises.{may_see}
use Rattle.smp_stop_steps.proofs.laws.steps_are_premised.Goals as goal

pub returns : goal.returns
returns c u p at seat source h control me sits stage e = may_see u p at seat source h control me sits stage e
