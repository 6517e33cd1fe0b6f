use Rattle.smp_stop_steps.proofs.Knows.KnownSteps.{known_steps_count}
use Rattle.smp_stop_steps.proofs.laws.known_steps_count.Goals as goal

pub returns : goal.returns
returns c v m may found w = known_steps_count v m may found w
