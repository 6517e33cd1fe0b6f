-- What a CPU has seen of heads is what its steps have found there.
use Rattle.std.proofs.Common.{arith}
use Rattle.smp_call_steps.specs.{HeadsTell}

pub heads_tell : HeadsTell
heads_tell v y may found queue = search arith
