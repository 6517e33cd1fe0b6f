use Rattle.smp_queue.proofs.TheRule.Seating.{AreSeated}
use Rattle.smp_queue.proofs.table.build.Given as goal

abbrev pub invariant-loop-number : goal.invariant-loop-number
invariant-loop-number g l = AreSeated l.owner.table.shared.table_id l.maker.raw.table_id l.maker.raw.me.0
    (record { nr = l.nr; online = l.online }) l.number l.waiting.items
