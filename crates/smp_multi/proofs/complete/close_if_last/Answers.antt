use Rattle.smp_multi.proofs.Completing.{ready_close}
use Rattle.smp_multi.proofs.complete.close_if_last.Goals as goal

pub store-requires : goal.store-requires
store-requires c = ready_close _ _ c.args.slot c.args.found c.requires.at c.if-found-eq1.true
