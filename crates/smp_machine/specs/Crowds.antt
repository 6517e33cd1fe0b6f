-- CPUs of a machine that are looked at together.
use Rattle.std.specs.Prelude.{List, [], ◌∷◌, map}
use Rattle.smp_queue.specs.Cpu.{CpuValue as CallCpuValue}
use Rattle.smp_multi.specs.Cpu.{CpuValue as StopCpuValue}
use Rattle.smp_machine.specs.MachineCpu.{MachineValue, MachineCpuValue, IsAt}

-- their parts of the calls, and of the stops
abbrev pub calls_of : List MachineCpuValue → List CallCpuValue
calls_of cpus = map (λ c. c.calls) cpus

abbrev pub stops_of : List MachineCpuValue → List StopCpuValue
stops_of cpus = map (λ c. c.stops) cpus

-- all of them are CPUs of this machine
abbrev pub AreAt : MachineValue → List MachineCpuValue → Type 0
AreAt m [] = Unit {0}
AreAt m (c ∷ cs) = IsAt m c × AreAt m cs

-- those that came last come first, in the order in which they came, and then these
abbrev pub in_order : {X : Type 0} → List X → List X → List X
in_order [] ys = ys
in_order (x ∷ xs) ys = in_order xs (x ∷ ys)
