use Rattle.smp_call_steps.proofs.State.HaveRun.{confirmed_sync_calls_ended}
use Rattle.smp_call_steps.proofs.laws.confirmed_sync_calls_ended.Goals as goal

pub returns : goal.returns
returns c a at control s = confirmed_sync_calls_ended a at control s
