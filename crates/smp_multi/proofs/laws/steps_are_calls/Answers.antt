use Rattle.smp_multi.proofs.Calls as answering
use Rattle.smp_multi.proofs.laws.steps_are_calls.Goals as goal

pub returns : goal.returns
returns c = answering.steps_are_calls
