use Rattle.smp_machine.proofs.Seating.{AreSeated}
use Rattle.smp_machine.proofs.boot.seat_all.Given as goal

abbrev pub invariant-loop-number : goal.invariant-loop-number
invariant-loop-number g l = AreSeated l.machine l.number l.calls l.stops l.passes.items l.waiting.items
