-- So many have been made.
use Rattle.std.proofs.Common.{◌≡◌, replicate}
use Rattle.trace_model.specs.Cpu.{fresh_cpu}
use Rattle.trace_model.proofs.open.fresh_cpus.Given as goal

abbrev pub invariant-loop-cpu : goal.invariant-loop-cpu
invariant-loop-cpu g l = l.cpus.items ≡ replicate l._cpu fresh_cpu
