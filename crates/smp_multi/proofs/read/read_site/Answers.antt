use Rattle.smp_multi.proofs.Reading.{ready_site}
use Rattle.smp_multi.proofs.read.read_site.Goals as goal

pub load-requires : goal.load-requires
load-requires c = ready_site _ _ c.requires.at c.args.i c.requires.low
