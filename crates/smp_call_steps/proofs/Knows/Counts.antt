-- A step outside handle is counted, and a step of handle is not.
use Rattle.std.proofs.Common.{arith}
use Rattle.smp_call_steps.specs.{StepsCount}

pub steps_count : StepsCount
steps_count v stage may found queue = search arith
