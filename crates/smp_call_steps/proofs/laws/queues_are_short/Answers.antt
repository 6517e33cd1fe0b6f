use Rattle.smp_call_steps.proofs.State.QueueChains.{queue_short}
use Rattle.smp_call_steps.proofs.laws.queues_are_short.Goals as goal

pub returns : goal.returns
returns c a at control shown cpu = queue_short a at control cpu shown
