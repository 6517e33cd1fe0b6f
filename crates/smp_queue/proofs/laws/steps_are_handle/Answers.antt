use Rattle.smp_queue.proofs.Chains.{steps_are_handle}
use Rattle.smp_queue.proofs.laws.steps_are_handle.Goals as goal

pub returns : goal.returns
returns c = steps_are_handle
