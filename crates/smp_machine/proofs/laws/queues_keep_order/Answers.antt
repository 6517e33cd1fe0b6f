use Rattle.smp_machine.proofs.StopLaws.{keep_order}
use Rattle.smp_machine.proofs.laws.queues_keep_order.Goals as goal

pub returns : goal.returns
returns c = keep_order
