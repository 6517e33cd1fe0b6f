use Rattle.std.proofs.Common.{◌≡◌, length}
use Rattle.smp_machine.specs.Passes.{queue_ids, AreTakers, AreGiven}
use Rattle.smp_machine.proofs.open.give_each.Given as goal

abbrev pub invariant-loop-source : goal.invariant-loop-source
invariant-loop-source g l = record {
  takers : AreTakers (queue_ids l.queues) (λ _. l.source) l.takers.items;
  sized : length l.takers.items ≡ length l.queues;
  count : length l.given.items ≡ l.source;
  given : AreGiven (queue_ids l.queues) 0 l.given.items;
}
