use Rattle.smp_calls.specs.Records.{many_call}
use Rattle.smp_calls.proofs.AtOnce.{Quiet}
use Rattle.smp_calls.proofs.Loops.{Asking}
use Rattle.smp_calls.proofs.each.queue_each.Given as goal

abbrev pub invariant-loop-cpu : goal.invariant-loop-cpu
invariant-loop-cpu g l = Asking g.H.Handler.leads l.fn.me l.fn.handler l.me l.handler (λ c answer. g.C.Fn.post l.fn.cond (c, (l.fn.calls.job.info, tt)) answer)
    (many_call l.fn.me.number l.fn.calls.job.class l.fn.calls.job.func l.fn.calls.job.info) l.fn.calls.others l.cpu-iterator l.called l.owed
    × Quiet l.fn.me l.fn.handler l.me l.handler l.fn.calls.others l.cpu-iterator
