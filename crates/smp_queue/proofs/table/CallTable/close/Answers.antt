use Rattle.std.proofs.Common.{arith}
use Rattle.smp_queue.proofs.Audits.Closed.{closes_with}
use Rattle.smp_queue.proofs.table.CallTable.close.Goals as goal

pub returns : goal.returns
returns g c = search (closes_with, arith)
