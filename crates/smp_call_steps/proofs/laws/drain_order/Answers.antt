use Rattle.smp_call_steps.proofs.State.QueueOrder.{keeps_classes, asyncs_last}
use Rattle.smp_call_steps.proofs.laws.drain_order.Goals as goal

pub returns-clause-classes : goal.returns-clause-classes
returns-clause-classes c batch class = keeps_classes batch class

pub returns-clause-asyncs_last : goal.returns-clause-asyncs_last
returns-clause-asyncs_last c batch before call after e is = asyncs_last batch before call after e is
