use Rattle.smp_call_steps.proofs.laws.interrupt_law.Goals as goal

pub returns : goal.returns
returns c a at control s = s.noticed.noticed
