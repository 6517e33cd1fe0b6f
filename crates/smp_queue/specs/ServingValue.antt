-- What contracts see of a CPU one of whose calls runs.
use Rattle.smp_words.specs.declared.call.Call.{Call}
use Rattle.smp_queue.specs.Cpu.{CpuValue}

-- the CPU, and the call
pub record ServingValue : Type 0 where
  pub cpu : CpuValue
  pub call : Call
