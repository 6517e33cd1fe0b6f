use Rattle.smp_call_steps.proofs.Knows.Counts.{steps_count}
use Rattle.smp_call_steps.proofs.laws.steps_count.Goals as goal

pub returns : goal.returns
returns c v stage may found queue = steps_count v stage may found queue
