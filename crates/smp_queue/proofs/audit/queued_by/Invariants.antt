use Rattle.smp_queue.specs.{Queued, number_in}
use Rattle.smp_queue.proofs.Audits.Auditing.{Reads}
use Rattle.smp_queue.proofs.audit.queued_by.Given as goal

abbrev pub invariant-loop-to : goal.invariant-loop-to
invariant-loop-to g l = Reads (λ to. number_in l.words (Queued l.source to)) l.to l.row
