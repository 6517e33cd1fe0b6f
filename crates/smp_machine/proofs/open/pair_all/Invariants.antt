use Rattle.std.proofs.Common.{◌≡◌, ◌+◌, length}
use Rattle.smp_words.specs.Size.{cpus}
use Rattle.smp_machine.specs.Passes.{queue_ids, AreGiven, AreFresh}
use Rattle.smp_machine.proofs.Made.{AreLeft}
use Rattle.smp_machine.proofs.open.pair_all.Given as goal

abbrev pub invariant-loop-number : goal.invariant-loop-number
invariant-loop-number g l = record {
  takers_left : length l.takers.items + l.number ≡ cpus;
  given_left : length l.given.items + l.number ≡ cpus;
  takers : AreLeft (queue_ids l.queues) l.number l.takers.items;
  given : AreGiven (queue_ids l.queues) l.number l.given.items;
  count : length l.passes.items ≡ l.number;
  fresh : AreFresh (queue_ids l.queues) 0 l.passes.items;
}
