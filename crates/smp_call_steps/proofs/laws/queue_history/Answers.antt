use Rattle.smp_call_steps.proofs.laws.queue_history.Goals as goal

pub returns : goal.returns
returns c a at control s = s.recorded
