use Rattle.smp_queue.proofs.Empty.{begins_empty}
use Rattle.smp_queue.proofs.table.CallTable.new.Goals as goal

pub returns-in-Ok-clause-empty : goal.returns-in-Ok-clause-empty
returns-in-Ok-clause-empty g c = begins_empty c.in-Ok.built.0
