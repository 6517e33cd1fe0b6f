use Rattle.smp_multi.proofs.Nudging.{ready_nudge}
use Rattle.smp_multi.proofs.nudge.exchange_count.Goals as goal

pub exchange-requires : goal.exchange-requires
exchange-requires c = ready_nudge _ _ c.requires.at c.args.k c.args.count c.args.next c.requires.low c.requires.nudge
