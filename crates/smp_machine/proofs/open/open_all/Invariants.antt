use Rattle.std.proofs.Common.{◌≡◌, length}
use Rattle.smp_machine.specs.Passes.{queue_ids, AreTakers}
use Rattle.smp_machine.proofs.open.open_all.Given as goal

abbrev pub invariant-loop-cpu : goal.invariant-loop-cpu
invariant-loop-cpu g l = record {
  queues : length l.queues.items ≡ l.cpu;
  takers : length l.takers.items ≡ l.cpu;
  are : AreTakers (queue_ids l.queues.items) (λ _. 0) l.takers.items;
}
