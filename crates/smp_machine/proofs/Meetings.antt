-- CPUs of a machine that are looked at together.
use Rattle.std.proofs.Common.{◌≡◌, List, [], ◌∷◌, length, subst, arith}
use Rattle.std.specs.Prelude.{All}
use Rattle.smp_call_steps.specs.State.{CallState}
use Rattle.smp_call_steps.specs.Threads.Parts.{part_of}
use Rattle.smp_queue.specs.Names.{CallSetting}
use Rattle.smp_queue.specs.Cpu.{CpuValue as CallCpuValue}
use Rattle.smp_queue.specs.Together.{ArePartsOf as ArePartsOfCalls, AreAllTogether as CallsAllTogether}
use Rattle.smp_queue.proofs.Together.{part_at as call_part_at}
use Rattle.smp_multi.specs.Names.{StopSetting}
use Rattle.smp_multi.specs.Cpu.{CpuValue as StopCpuValue}
use Rattle.smp_multi.specs.Laws.{IsInside}
use Rattle.smp_multi.specs.Together.{StopsNow, IsPartOf as IsPartOfStops, ArePartsOf as ArePartsOfStops, AreAllTogether as StopsAllTogether}
use Rattle.smp_multi.proofs.Together.{part_at as stop_part_at}
use Rattle.smp_machine.specs.Crowds.{calls_of, stops_of, in_order}
use Rattle.smp_machine.specs.Headline.{AllHaveCalls}
use Rattle.smp_machine.specs.MachineCpu.{MachineCpuValue}
use Rattle.smp_machine.proofs.Headline.{own_calls, own_inside, own_irq}

calls_onto : (now : CallState) (k : CallSetting) (xs ys : List CallCpuValue) → ArePartsOfCalls now k xs → ArePartsOfCalls now k ys
    → ArePartsOfCalls now k (in_order xs ys)
calls_onto now k [] ys all more = more
calls_onto now k (x ∷ xs) ys all more = calls_onto now k xs (x ∷ ys) all.1 (all.0, more)

-- those that came are all, where none is left
pub calls_met : (xs : List CallCpuValue) (cs : List MachineCpuValue) → length cs ≡ 0 → CallsAllTogether xs → CallsAllTogether (in_order xs (calls_of cs))
calls_met xs [] e t = record { now = t.now; setting = t.setting; parts = calls_onto t.now.calls t.setting xs [] t.parts tt }
calls_met xs (c ∷ cs) e t = absurd (omega (arith, e))

stops_onto : {k : StopSetting} (now : StopsNow k) (xs ys : List StopCpuValue) → ArePartsOfStops now xs → ArePartsOfStops now ys
    → ArePartsOfStops now (in_order xs ys)
stops_onto now [] ys all more = more
stops_onto now (x ∷ xs) ys all more = stops_onto now xs (x ∷ ys) all.1 (all.0, more)

pub stops_met : (xs : List StopCpuValue) (cs : List MachineCpuValue) → length cs ≡ 0 → StopsAllTogether xs → StopsAllTogether (in_order xs (stops_of cs))
stops_met xs [] e t = record { setting = t.setting; now = t.now; parts = stops_onto t.now xs [] t.parts tt }
stops_met xs (c ∷ cs) e t = absurd (omega (arith, e))

-- each value is what its CPU has in the one state
pub own_all : (cs : List CallCpuValue) (t : AllHaveCalls cs) → All (λ (c : CallCpuValue). part_of t.now.calls c.number ≡ c.part) cs
own_all cs t i d l = own_calls _ (record { now = t.now; part = (call_part_at t.now.calls t.setting cs t.parts i d l).0 })

inside_at : (c : StopCpuValue) (k : StopSetting) → c.setting ≡ k → (now : StopsNow k) → IsPartOfStops now c → IsInside now.stops.now c.number c.inside
inside_at c k e = subst (λ l. (now : StopsNow l) → IsPartOfStops now c → IsInside now.stops.now c.number c.inside) e
    (λ now part. own_inside c (record { now = now; part = part }))

pub inside_all : (cs : List StopCpuValue) (t : StopsAllTogether cs) → All (λ (c : StopCpuValue). IsInside t.now.stops.now c.number c.inside) cs
inside_all cs t i d l = let p = stop_part_at t.now cs t.parts i d l in inside_at _ t.setting p.1 t.now p.0

irq_at : (c : StopCpuValue) (k : StopSetting) → c.setting ≡ k → (now : StopsNow k) → IsPartOfStops now c → now.stops.now.irq c.number ≡ c.irq
irq_at c k e = subst (λ l. (now : StopsNow l) → IsPartOfStops now c → now.stops.now.irq c.number ≡ c.irq) e
    (λ now part. own_irq c (record { now = now; part = part }))

pub irq_all : (cs : List StopCpuValue) (t : StopsAllTogether cs) → All (λ (c : StopCpuValue). t.now.stops.now.irq c.number ≡ c.irq) cs
irq_all cs t i d l = let p = stop_part_at t.now cs t.parts i d l in irq_at _ t.setting p.1 t.now p.0
