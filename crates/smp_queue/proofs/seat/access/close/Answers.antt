use Rattle.std.proofs.Common.{arith}
use mathlib.Core.Option.{some}
use Rattle.smp_queue.proofs.Audits.Closed.{closes}
use Rattle.smp_queue.proofs.seat.access.close.Goals as goal

pub returns-clause-closes : goal.returns-clause-closes
returns-clause-closes g c = search (closes, some, arith)
