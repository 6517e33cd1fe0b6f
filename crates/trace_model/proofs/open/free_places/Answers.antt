use Rattle.std.proofs.Common.{arith}
use Rattle.trace_model.proofs.Opened.{free_all}
use Rattle.trace_model.proofs.open.free_places.Goals as goal

pub returns : goal.returns
returns g c = free_all _ c.loop-id._id 65536 c.loop-id.invariant (omega arith) (omega arith)
