use Rattle.smp_call_steps.proofs.State.HaveRun.{confirmed_calls_have_run}
use Rattle.smp_call_steps.proofs.laws.confirmed_calls_have_run.Goals as goal

pub returns : goal.returns
returns c a at control s = confirmed_calls_have_run a at control s
