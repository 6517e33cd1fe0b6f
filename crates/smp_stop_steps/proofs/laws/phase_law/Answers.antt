use Rattle.smp_stop_steps.specs.{Slot}
use Rattle.smp_stop_steps.proofs.State.Raises.{phase_law}
use Rattle.smp_stop_steps.proofs.laws.phase_law.Goals as goal

pub returns : goal.returns
returns c u p at seat source h s op busy = phase_law u.cpus (p.now.stop s) (λ f. at (Slot s f)) (h.present.slots s) op busy
