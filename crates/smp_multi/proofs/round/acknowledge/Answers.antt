use Rattle.smp_multi.proofs.Turning.{ready_acknowledge}
use Rattle.smp_multi.proofs.round.acknowledge.Goals as goal

pub subtract-requires : goal.subtract-requires
subtract-requires c = ready_acknowledge _ _ c.args.visit c.requires.at c.requires.calm
