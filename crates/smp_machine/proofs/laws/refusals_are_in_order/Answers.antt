use Rattle.smp_machine.proofs.StopLaws.{in_order}
use Rattle.smp_machine.proofs.laws.refusals_are_in_order.Goals as goal

pub returns : goal.returns
returns c = in_order
