use Rattle.smp_call_steps.proofs.State.Classes.{runs_by_class}
use Rattle.smp_call_steps.proofs.laws.runs_by_class.Goals as goal

pub returns : goal.returns
returns c a at control s cpu = runs_by_class a at control s cpu
