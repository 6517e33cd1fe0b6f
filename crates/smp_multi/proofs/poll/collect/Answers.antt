use Rattle.smp_multi.proofs.Polling.{ready_collect, result_fits}
use Rattle.smp_multi.proofs.poll.collect.Goals as goal

pub load-requires : goal.load-requires
load-requires c = ready_collect _ _ c.args.number c.requires

pub returns-clause-fits : goal.returns-clause-fits
returns-clause-fits c = result_fits _ c.args.number c.load.result c.load.ensures.then
