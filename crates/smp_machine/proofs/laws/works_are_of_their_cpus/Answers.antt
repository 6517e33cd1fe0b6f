use Rattle.smp_machine.proofs.StopLaws.{works_are}
use Rattle.smp_machine.proofs.laws.works_are_of_their_cpus.Goals as goal

pub returns : goal.returns
returns c = works_are
