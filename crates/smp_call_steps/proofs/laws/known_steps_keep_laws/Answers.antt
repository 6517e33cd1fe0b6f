use Rattle.smp_call_steps.proofs.StepLaws.Keeps.{known_steps_keep_laws}
use Rattle.smp_call_steps.proofs.laws.known_steps_keep_laws.Goals as goal

pub returns : goal.returns
returns c a at control v shown sees stage may = known_steps_keep_laws a at control v shown sees stage may
