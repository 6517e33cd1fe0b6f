use Rattle.smp_stop_steps.proofs.TheMachine.Members.{first_least}
use Rattle.smp_stop_steps.proofs.laws.first_is_least.Goals as goal

pub returns : goal.returns
returns c = λ online labels cpu low member. first_least online 32 cpu low member
