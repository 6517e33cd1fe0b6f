use Rattle.smp_stop_steps.proofs.Promises.Interrupts.{interrupt_law}
use Rattle.smp_stop_steps.proofs.laws.interrupt_law.Goals as goal

pub returns : goal.returns
returns c u p at seat source h me = interrupt_law u p at seat source h me
