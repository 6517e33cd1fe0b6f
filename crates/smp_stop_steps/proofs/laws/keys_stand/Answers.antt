use Rattle.smp_stop_steps.proofs.Steps.Nudging.{keys_stand}
use Rattle.smp_stop_steps.proofs.laws.keys_stand.Goals as goal

pub returns : goal.returns
returns c u p at seat source h control me s stage e whole = keys_stand u p at seat source h control me s stage e whole
