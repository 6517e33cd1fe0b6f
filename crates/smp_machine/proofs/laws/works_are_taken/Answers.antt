use Rattle.smp_machine.proofs.StopLaws.{are_taken}
use Rattle.smp_machine.proofs.laws.works_are_taken.Goals as goal

pub returns : goal.returns
returns c = are_taken
