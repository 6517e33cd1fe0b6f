use Rattle.std.proofs.Common.{rules}
use Rattle.smp_machine.proofs.Made.{takers_pushed}
use Rattle.smp_machine.proofs.open.open_all.Goals as goal

pub loop-cpu-preserved : goal.loop-cpu-preserved
loop-cpu-preserved g c = record {
  queues = search rules;
  takers = search rules;
  are = takers_pushed c.loop-cpu.queues.items c.push.new.self.items c.in_ok-queue.queue c.loop-cpu.takers.items c.push-in-loop-cpu.new.self.items
      c.in_ok-queue.taker
      c.in_ok-push.ensures.items c.in_ok-push-2.ensures.items c.in_ok-queue.ensures.1 c.in_ok-queue.ensures.2 c.loop-cpu.invariant.are;
}
