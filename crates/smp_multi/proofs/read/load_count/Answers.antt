use Rattle.smp_multi.proofs.Reading.{ready_key, count_found}
use Rattle.smp_multi.proofs.read.load_count.Goals as goal

pub load-requires : goal.load-requires
load-requires c = ready_key _ _ c.requires.at c.args.k c.requires.low

pub returns-clause-word : goal.returns-clause-word
returns-clause-word c = count_found _ c.args.k c.load.result c.requires.at.online c.requires.at.irq c.requires.low c.load.ensures.then
