use Rattle.smp_machine.proofs.Moves.{begins}
use Rattle.smp_machine.proofs.work_queue.opened.Goals as goal

pub ruled-requires-clause-rule : goal.ruled-requires-clause-rule
ruled-requires-clause-rule g c = begins
