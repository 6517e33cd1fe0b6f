-- The headline, of a CPU's value.
use Rattle.std.proofs.Common.{◌≡◌, List, sym, subst, refl, ap, ◌∙◌}
use Rattle.smp_call_steps.specs.Threads.Parts.{part_of}
use Rattle.smp_stop_steps.specs.Seats.{RoleStands, irq_of}
use Rattle.smp_queue.specs.Cpu.{CpuValue as CallCpuValue}
use Rattle.smp_queue.specs.Laws.{CallsAreShown}
use Rattle.smp_queue.specs.Together.{AreAllTogether as CallsAllTogether}
use Rattle.smp_multi.specs.Cpu.{CpuValue as StopCpuValue, cpu_of}
use Rattle.smp_multi.specs.Laws.{IsInside, StopsAreShown}
use Rattle.smp_multi.proofs.Showing.{inside_shown}
use Rattle.smp_machine.specs.Headline.{AllHaveCalls, HasCalls, HasStops}

pub has_calls : (c : CallCpuValue) → CallsAreShown c → HasCalls c
has_calls c s = record { now = record { calls = s.calls; at = s.at; reached = s.reached }; part = s.view }

pub all_have_calls : (cs : List CallCpuValue) → CallsAllTogether cs → AllHaveCalls cs
all_have_calls cs t = record { now = record { calls = t.now.calls; at = t.now.at; reached = t.now.reached }; setting = t.setting; parts = t.parts }

pub has_stops : (c : StopCpuValue) → StopsAreShown c → HasStops c
has_stops c s = let l = s.lives in
    subst HasStops (sym s.view) record {
      now = record { stops = l.stops; at = l.at; reached = l.reached; seat = l.seat; source = l.source; shown = l.shown };
      part = record { known = s.known; sees = l.sees; view = refl };
    }

pub own_calls : (c : CallCpuValue) (s : HasCalls c) → part_of s.now.calls c.number ≡ c.part
own_calls c s = ap (λ (d : CallCpuValue). d.part) (sym s.part)

-- of the value of a CPU that knows this
known_inside : (c : StopCpuValue) (s : HasStops c)
    → let d = cpu_of (record { table = c.table; known = s.part.known }) in IsInside s.now.stops.now d.number d.inside
known_inside c s = let v = s.part.known in
    inside_shown s.now.stops.now v.number v.seat (subst (RoleStands s.now.stops.now v.number) s.part.sees.seat_is (s.now.shown.present.stands v.number))

pub own_inside : (c : StopCpuValue) (s : HasStops c) → IsInside s.now.stops.now c.number c.inside
own_inside c s = subst (λ (d : StopCpuValue). IsInside s.now.stops.now d.number d.inside) (sym s.part.view) (known_inside c s)

known_irq : (c : StopCpuValue) (s : HasStops c)
    → let d = cpu_of (record { table = c.table; known = s.part.known }) in s.now.stops.now.irq d.number ≡ d.irq
known_irq c s = s.now.shown.present.irq s.part.known.number ∙ ap irq_of s.part.sees.seat_is

pub own_irq : (c : StopCpuValue) (s : HasStops c) → s.now.stops.now.irq c.number ≡ c.irq
own_irq c s = subst (λ (d : StopCpuValue). s.now.stops.now.irq d.number ≡ d.irq) (sym s.part.view) (known_irq c s)

-- of two values that are these
pub of_both : {A B : Type 0} (R : A → B → Type 0) {a x : A} {b y : B} → a ≡ x → b ≡ y → R a b → R x y
of_both R {a} {x} {b} {y} e f k = subst (λ v. R v y) e (subst (λ w. R a w) f k)
