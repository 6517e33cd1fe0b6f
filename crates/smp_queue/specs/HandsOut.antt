-- What a CPU goes on with, that hands out its calls.
use Rattle.std.specs.Prelude.{◌≡◌, []}
use Rattle.smp_queue.specs.Cpu.{CpuValue}
use Rattle.smp_queue.specs.Serving.{IsNext}
use Rattle.smp_queue.specs.declared.serving.Next.{Next}
use Rattle.smp_queue.specs.declared.serving.Next.TheVariants.{Idle, Run, Done}

-- the front of the batch of this CPU is out, or its batch was empty and it is outside
abbrev pub NextIs : CpuValue → Next → Type 0
NextIs c (Idle d) = ⊥
NextIs c (Run s) = IsNext c s
NextIs c (Done d) = (c.part.batch ≡ []) × (d ≡ c)
