use Rattle.smp_call_steps.proofs.Headline.{shown_laws, run_in_order}
use Rattle.smp_call_steps.proofs.laws.runs_in_queue_order.Goals as goal

pub returns : goal.returns
returns c a at control s = run_in_order (shown_laws s)
