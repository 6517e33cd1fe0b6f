use Rattle.std.proofs.Common.{◌≡◌, length, take}
use Rattle.smp_machine.specs.Passes.{queue_ids, AreTakers, AreSources, given_below}
use Rattle.smp_machine.proofs.open.give_all.Given as goal

abbrev pub invariant-loop-cpu : goal.invariant-loop-cpu
invariant-loop-cpu g l = record {
  takers : AreTakers (queue_ids l.queues) (given_below l.cpu l.source) l.takers.items;
  sized : length l.takers.items ≡ length l.queues;
  to : AreSources (take l.cpu (queue_ids l.queues)) l.source l.to.items;
}
