use Rattle.smp_queue.specs.{number_in}
use Rattle.smp_queue.proofs.Audits.Auditing.{ReadsTally}
use Rattle.smp_queue.proofs.audit.read_tally.Given as goal

abbrev pub invariant-loop-cpu : goal.invariant-loop-cpu
invariant-loop-cpu g l = ReadsTally (number_in l.words) l.cpu l.tally
