use Rattle.smp_call_steps.proofs.Promises.{steps_are_told}
use Rattle.smp_call_steps.proofs.laws.steps_are_told.Goals as goal

pub returns : goal.returns
returns c a at control v shown sees stage may access is = steps_are_told a at control v shown sees stage may access is
