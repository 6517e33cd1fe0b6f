use Rattle.smp_machine.proofs.Moves.{forks}
use Rattle.smp_machine.proofs.work_queue.give.Goals as goal

pub another-requires-clause-rule : goal.another-requires-clause-rule
another-requires-clause-rule g c = forks _ _ _ _ c.requires.1
