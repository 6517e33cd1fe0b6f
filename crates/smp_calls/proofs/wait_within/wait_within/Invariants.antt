use Rattle.smp_calls.proofs.Polling.{Asks}
use Rattle.smp_calls.proofs.wait_within.wait_within.Given as goal

abbrev pub invariant-loop-cpu : goal.invariant-loop-cpu
invariant-loop-cpu g l = Asks g.H.Handler.leads l.fn.me l.fn.handler l.me l.handler l.fn.called l.cpu-iterator l.answered l.silent l.fn.polls l.left
