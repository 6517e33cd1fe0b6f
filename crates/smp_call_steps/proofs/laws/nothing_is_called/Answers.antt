use Rattle.smp_call_steps.proofs.Promises.{nothing_called}
use Rattle.smp_call_steps.proofs.laws.nothing_is_called.Goals as goal

pub returns : goal.returns
returns c at control zeros outside = nothing_called at control zeros outside
