-- Calls that are handed out one after another.
use Rattle.std.specs.Prelude.{◌≡◌, true, List, [], ◌∷◌}
use Rattle.smp_call_steps.specs.Order.{order}
use Rattle.smp_queue.specs.Names.{Call}
use Rattle.smp_queue.specs.Cpu.{CpuValue}
use Rattle.smp_queue.specs.Handling.{asks, drains}
use Rattle.smp_queue.specs.HandsOut.{NextIs}
use Rattle.smp_queue.specs.Serving.{takes, ends}
use Rattle.smp_queue.specs.ServingValue.{ServingValue}
use Rattle.smp_queue.specs.declared.serving.Next.TheVariants.{Run, Done}

-- from this CPU on these calls are handed out, each after the one before has ended, and then the CPU is outside
abbrev pub Serves : CpuValue → List Call → CpuValue → Type 0
Serves c [] d = NextIs c (Done d)
Serves c (call ∷ calls) d = (s : ServingValue) × NextIs c (Run s) × (s.call ≡ call) × Serves (ends s.call s.cpu) calls d

-- the calls handed out of a batch are those of the batch in drain order, and leave what `handle` leaves
abbrev pub StepsAreHandle : Type 0
StepsAreHandle = (c d : CpuValue) (queue calls : List Call) → Serves (takes queue (asks true c)) calls d
    → (calls ≡ order queue) × (d ≡ drains queue (asks true c))
