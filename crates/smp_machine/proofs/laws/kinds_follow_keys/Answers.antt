use Rattle.smp_machine.proofs.ReadLaws.{kinds_follow}
use Rattle.smp_machine.proofs.laws.kinds_follow_keys.Goals as goal

pub returns : goal.returns
returns c = kinds_follow
