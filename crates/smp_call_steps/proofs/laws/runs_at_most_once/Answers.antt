use Rattle.smp_call_steps.proofs.Promises.{run_at_most_once}
use Rattle.smp_call_steps.proofs.laws.runs_at_most_once.Goals as goal

pub returns : goal.returns
returns c a at control s source cpu class = run_at_most_once a at control s source cpu class
