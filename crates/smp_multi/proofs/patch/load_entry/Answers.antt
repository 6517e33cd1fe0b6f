use Rattle.smp_multi.proofs.Patching.{ready_entry, entry_found}
use Rattle.smp_multi.proofs.patch.load_entry.Goals as goal

pub load-requires : goal.load-requires
load-requires c = ready_entry _ _ c.args.site c.requires.table c.requires.sized c.requires.inside c.requires.low

pub returns-clause-form : goal.returns-clause-form
returns-clause-form c = entry_found _ c.args.site c.load.result c.requires.low c.load.ensures.then
