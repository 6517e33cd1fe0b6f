use Rattle.smp_call_steps.proofs.Headline.{shown_laws, run_equal_queued}
use Rattle.smp_call_steps.proofs.laws.drained_machines_ran_all.Goals as goal

pub returns : goal.returns
returns c a at control s = run_equal_queued (shown_laws s)
