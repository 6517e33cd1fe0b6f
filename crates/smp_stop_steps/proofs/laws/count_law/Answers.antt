use Rattle.smp_stop_steps.proofs.laws.count_law.Goals as goal

pub returns : goal.returns
returns c u p at seat source h k = h.counts k
