use Rattle.smp_call_steps.proofs.Knows.Logs.{logs_tell}
use Rattle.smp_call_steps.proofs.laws.logs_tell.Goals as goal

pub returns : goal.returns
returns c a at control v shown sees stage may access is = logs_tell a at control v shown sees stage may access is
