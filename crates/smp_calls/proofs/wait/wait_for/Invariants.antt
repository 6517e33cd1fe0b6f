use Rattle.std.proofs.Common.{[]}
use Rattle.smp_queue.specs.Cpu.{confirmed_at}
use Rattle.smp_calls.specs.Families.{Leaves, owes_at}
use Rattle.smp_calls.proofs.Turns.{Waiting}
use Rattle.smp_calls.proofs.wait.wait_for.Given as goal

abbrev pub invariant-loop : goal.invariant-loop
invariant-loop g l = Leaves g.H.Handler.leads l.fn.me l.fn.handler l.me l.handler [] [] (owes_at l.fn.me) (confirmed_at l.fn.me)
    × Waiting l.k l.fn.me l.fn.handler l.me l.handler
