use Rattle.smp_queue.specs.{number_in}
use Rattle.smp_queue.proofs.Audits.Auditing.{CountsCpus, CountsRecords}
use Rattle.smp_queue.proofs.audit.count_left.Given as goal

abbrev pub invariant-loop-cpu : goal.invariant-loop-cpu
invariant-loop-cpu g l = CountsCpus (number_in l.words) l.cpu l.left

abbrev pub invariant-loop-id : goal.invariant-loop-id
invariant-loop-id g l = CountsRecords (number_in l.words) l.id l.left
