use Rattle.smp_machine.proofs.Polls.{Going}
use Rattle.smp_machine.proofs.turn.finish_work.Given as goal

abbrev pub invariant-loop : goal.invariant-loop
invariant-loop g l = Going g.H.Handler.leads g.F.StopFunc.leads l.fn.me l.fn.handler l.fn.run l.me l.handler l.run
