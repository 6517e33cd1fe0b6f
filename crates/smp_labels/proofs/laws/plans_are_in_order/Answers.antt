use Rattle.smp_labels.proofs.PlanOrder.{in_order}
use Rattle.smp_labels.proofs.laws.plans_are_in_order.Goals as goal

pub returns : goal.returns
returns c = in_order
