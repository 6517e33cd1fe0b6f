use Rattle.smp_stop_steps.proofs.Steps.Nudging.{nudges}
use Rattle.smp_stop_steps.proofs.laws.nudges_stand.Goals as goal

pub returns : goal.returns
returns c u p at seat source h control me s k expected new e = nudges u p at seat source h control me s k expected new e
