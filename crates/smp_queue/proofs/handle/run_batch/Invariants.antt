use Rattle.std.proofs.Common.{◌≡◌, length, IfSome}
use Rattle.smp_queue.specs.declared.run.Pass.TheVariants.{Second}
use Rattle.smp_queue.proofs.Handling.Running.{RunsOn}
use Rattle.smp_queue.proofs.handle.run_batch.Given as goal

abbrev pub invariant-loop-here : goal.invariant-loop-here
invariant-loop-here g l = RunsOn g.H.Handler.leads l.context.words.shared.now.table_id l.fn.seat l.seat l.here l.counts l.fn.handler l.handler

abbrev pub decreases-loop-here : goal.decreases-loop-here
decreases-loop-here g l = length l.seat.known.part.batch

abbrev pub invariant-loop-here-2 : goal.invariant-loop-here-2
invariant-loop-here-2 g l =
    RunsOn g.H.Handler.leads l.context.words.shared.now.table_id l.fn.seat l.seat l.here l.counts l.fn.handler l.handler
    × IfSome l.here (λ p. p.pass ≡ Second)

abbrev pub decreases-loop-here-2 : goal.decreases-loop-here-2
decreases-loop-here-2 g l = length l.seat.known.part.batch
