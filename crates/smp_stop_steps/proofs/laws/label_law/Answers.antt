use Rattle.smp_stop_steps.proofs.State.Patched.{lawful_when_on}
use Rattle.smp_stop_steps.proofs.laws.label_law.Goals as goal

pub returns : goal.returns
returns c u p at seat source h me online on = record { lawful = lawful_when_on u p.now at seat h.present me online on; agrees = h.present.read me online on }
