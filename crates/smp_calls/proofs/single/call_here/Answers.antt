use Rattle.std.proofs.Common.{arith}
use Rattle.smp_calls.proofs.single.call_here.Goals as goal

pub returns : goal.returns
returns g c = search arith
