use Rattle.smp_queue.specs.{Ran, number_in}
use Rattle.smp_queue.proofs.Audits.Auditing.{Reads}
use Rattle.smp_queue.proofs.audit.ran_by.Given as goal

abbrev pub invariant-loop-source : goal.invariant-loop-source
invariant-loop-source g l = Reads (λ source. number_in l.words (Ran l.cpu source)) l.source l.row
