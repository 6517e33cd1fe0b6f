use Rattle.std.proofs.Common.{arith}
use Rattle.trace_model.specs.Cpu.{fresh_cpu}
use Rattle.trace_model.proofs.Opened.{all_made}
use Rattle.trace_model.proofs.open.fresh_cpus.Goals as goal

pub returns : goal.returns
returns g c = all_made fresh_cpu _ c.loop-cpu._cpu 512 c.loop-cpu.invariant (omega arith) (omega arith)
