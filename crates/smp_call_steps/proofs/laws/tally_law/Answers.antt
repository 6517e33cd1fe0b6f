use Rattle.smp_call_steps.proofs.laws.tally_law.Goals as goal

pub returns : goal.returns
returns c a at control s = s.tallied
