use Rattle.smp_multi.proofs.Seating.{AreSeated}
use Rattle.smp_multi.proofs.table.build.Given as goal

abbrev pub invariant-loop-number : goal.invariant-loop-number
invariant-loop-number g l = AreSeated l.owner.table.shared.table_id l.maker.raw.table_id l.maker.raw.me.0 l.setting l.number l.waiting.items
