-- A CPU goes on with a work until it is completed.
use Rattle.std.proofs.Common.{◌≡◌, ◌≢◌, ℕ, Bool, Option, Some, None, List, [], ◌∷◌, ◌++◌, append_assoc, inl, inr, arith, refl, sym, ap, ◌∙◌, subst}
use Rattle.smp_queue.specs.Cpu.{CpuValue as CallCpuValue}
use Rattle.smp_queue.specs.declared.handler.Heard.{Heard}
use Rattle.smp_calls.specs.Handles.{looks}
use Rattle.smp_multi.specs.Cpu.{CpuValue as StopCpuValue, Inside}
use Rattle.smp_multi.specs.declared.func.Called.{Called}
use Rattle.smp_multi.specs.declared.turn.Turn.{Turn}
use Rattle.smp_multi.specs.declared.turn.Turn.TheVariants.{Left}
use Rattle.smp_stop_steps.specs.Tells.{first_readings}
use Rattle.smp_words.specs.declared.phase.TheConstants.{RUN}
use Rattle.smp_machine.specs.declared.work_queue.Item.{Item}
use Rattle.smp_machine.specs.Own.{Own, own_of}
use Rattle.smp_machine.specs.Passes.{PassesValue}
use Rattle.smp_machine.specs.MachineCpu.{MachineValue, MachineCpuValue}
use Rattle.smp_machine.specs.Takes.{TakesFront, EntersFront, TakesNext, TakesWork}
use Rattle.smp_machine.specs.Works.{Works, LooksOnceMore, LooksOnceOrMore, TurnsStop, ReadsAnew}
use Rattle.smp_machine.proofs.Looks.{hears_none}
use Rattle.smp_machine.proofs.OwnAnswers.{own_still}
use Rattle.smp_machine.proofs.Served.{beginning_still, later_still, serves_next}
use Rattle.smp_machine.proofs.Works.{works_own, works_none, works_then, works_as}

-- it has worked, has put and taken nothing, and is still in the same stop
pub record Going {H F : Type 0} (hears : H → Heard → H → Type 0) (leads : F → Called → F → Type 0) (old : MachineCpuValue) (h : H) (f : F)
    (new : MachineCpuValue) (h' : H) (f' : F) : Type 0 where
  pub works : Works hears leads old h f new h' f' (own_of old)
  pub inside : new.stops.inside ≢ None
  pub same : (stop : Inside) → old.stops.inside ≡ Some stop → (acked : ℕ) × (new.stops.inside ≡ Some (record stop { acked = acked }))
  pub passes_are : new.passes ≡ old.passes

some_of : (o : Option Inside) → o ≢ None → (stop : Inside) × (o ≡ Some stop)
some_of None n = absurd (n refl)
some_of (Some stop) n = (stop, refl)

some_not : {o : Option Inside} {stop : Inside} → o ≡ Some stop → o ≢ None
some_not e n = cc

front_queues : (old new : PassesValue) (front : Option Item) → TakesFront old new front
    → (new.queues ≡ old.queues) × (new.number ≡ old.number) × (new.put ≡ old.put) × (new.noted ≡ old.noted)
front_queues old new None t =
    (ap (λ (p : PassesValue). p.queues) t, ap (λ (p : PassesValue). p.number) t, ap (λ (p : PassesValue). p.put) t, ap (λ (p : PassesValue). p.noted) t)
front_queues old new (Some x) t = (
  ap (λ (p : PassesValue). p.queues) t.0,
  ap (λ (p : PassesValue). p.number) t.0,
  ap (λ (p : PassesValue). p.put) t.0,
  ap (λ (p : PassesValue). p.noted) t.0,
)

-- a CPU of which nothing has changed but where it is, its attempts to enter a stop, and how many steps it has made
abbrev tried : StopCpuValue → StopCpuValue → StopCpuValue
tried old new = record old { inside = new.inside; attempts = new.attempts; steps = new.steps }

-- to take the front of the queue changes no more
front_inside : (m : MachineValue) (old new : StopCpuValue) (front : Option Item) (slot : Option ℕ) → EntersFront m.stops old new front slot
    → new ≡ tried old new
front_inside m old new None None e = subst (λ (y : StopCpuValue). y ≡ tried old y) (sym e) refl
front_inside m old new (Some x) None (inl e) = subst (λ (y : StopCpuValue). y ≡ tried old y) (sym e.is) refl
front_inside m old new (Some x) None (inr e) = subst (λ (y : StopCpuValue). y ≡ tried old y) (sym e.0) refl
front_inside m old new None (Some slot) e = absurd e
front_inside m old new (Some x) (Some slot) e = subst (λ (y : StopCpuValue). y ≡ tried old y) (sym e.1.1.is) refl

-- a CPU that has acknowledged RUN then was in the same stop before: one that enters has acknowledged nothing
front_early : (m : MachineValue) (old new : StopCpuValue) (front : Option Item) (slot : Option ℕ) → EntersFront m.stops old new front slot
    → (stop : Inside) → new.inside ≡ Some stop → stop.acked ≡ RUN → old.inside ≡ Some stop
front_early m old new None None e stop is at = ap (λ (y : StopCpuValue). y.inside) (sym e) ∙ is
front_early m old new (Some x) None (inl e) stop is at = ap (λ (y : StopCpuValue). y.inside) (sym e.is) ∙ is
front_early m old new (Some x) None (inr e) stop is at = ap (λ (y : StopCpuValue). y.inside) (sym e.0) ∙ is
front_early m old new None (Some slot) e stop is at = absurd e
front_early m old new (Some x) (Some slot) e stop is at =
    let entered : Some (record { slot = slot; work = e.1.1.work; acked = 0 }) ≡ Some stop = ap (λ (y : StopCpuValue). y.inside) (sym e.1.1.is) ∙ is in
    let none : 0 ≡ stop.acked = ap (λ (z : Inside). z.acked) (inside_same entered) in
    absurd (omega (arith, none, at))
  where
    inside_same : {y z : Inside} → Some y ≡ Some z → y ≡ z
    inside_same e = cc

-- to take and to enter changes nothing that only a CPU's own stop calls change
next_own : (m : MachineValue) (old new : MachineCpuValue) (slot : Option ℕ) → TakesNext m old new slot → own_of new ≡ own_of old
next_own m old new slot t =
    let p = front_queues old.passes new.passes t.front t.passes_are in
    let e = front_inside m old.stops new.stops t.front slot t.stops_are in
    λ i. own_of (record {
      calls = old.calls;
      stops = record (e i) { inside = None; attempts = []; steps = 0 };
      passes = record (old.passes) { put = p.2 i; noted = p.3 i };
      heard_at = [];
    })

module _ {H F : Type 0} (hears : H → Heard → H → Type 0) (leads : F → Called → F → Type 0) where
  pub going_none : (p : MachineCpuValue) (h : H) (f : F) → p.stops.inside ≢ None → Going hears leads p h f p h f
  going_none p h f inside = record { works = works_none hears leads p h f; inside = inside; same = λ stop e. (stop.acked, e); passes_are = refl }

  pub going_more : (old mid new : MachineCpuValue) (h h₁ h₂ : H) (f f₁ f₂ : F) (turn : Turn) → Going hears leads old h f mid h₁ f₁
      → Works hears leads mid h₁ f₁ new h₂ f₂ (own_of mid) → TurnsStop leads mid.stops f₁ new.stops f₂ turn → new.passes ≡ mid.passes → turn ≢ Left
      → Going hears leads old h f new h₂ f₂
  going_more old mid new h h₁ h₂ f f₁ f₂ turn g w t passes on = record {
    works = works_as hears leads (own_of old) g.works.own_is (works_then hears leads g.works w);
    inside = let s = some_of mid.stops.inside g.inside in some_not (t.stays on s.0 s.1).2;
    same = λ stop e. let m = g.same stop e in let k = t.stays on (record stop { acked = m.0 }) m.1 in (k.0, k.2);
    passes_are = passes ∙ g.passes_are;
  }

  -- what it has read at the end
  pub going_read : (old mid new : MachineCpuValue) (h h₁ : H) (f f₁ : F) → Going hears leads old h f mid h₁ f₁ → ReadsAnew mid.stops new.stops
      → ReadsAnew old.stops new.stops
  going_read old mid new h h₁ f f₁ g r stop e several =
      let m = g.same stop e in
      r (record stop { acked = m.0 }) m.1 several ∙ ap (λ (n : ℕ). first_readings n stop.slot stop.work) g.works.number_is

  -- a look, and then more of them
  pub looks_more : {own : Own} (old mid new : MachineCpuValue) (h h' : H) (f f' : F) → Works hears leads mid h f new h' f' own
      → LooksOnceMore old.calls mid.calls → LooksOnceOrMore old.calls new.calls
  looks_more old mid new h h' f f' w o = record {
    found = o.0;
    more = looks w.handled.turns;
    asked_is = w.handled.asked_is ∙ (ap (λ (l : List Bool). l ++ looks w.handled.turns) o.1
        ∙ append_assoc old.calls.part.asked (o.0 ∷ []) (looks w.handled.turns));
  }

  -- the front is taken and entered
  pub works_next : (m : MachineValue) (old new : MachineCpuValue) (h : H) (f : F) (slot : Option ℕ) → TakesNext m old new slot
      → Works hears leads old h f new h f (own_of old)
  works_next m old new h f slot t =
      let p = front_queues old.passes new.passes t.front t.passes_are in
      let e = front_inside m old.stops new.stops t.front slot t.stops_are in
      works_as hears leads (own_of old) (next_own m old new slot t)
      (works_own hears leads old new h f t.calls_are (later_still old.stops new.stops (ap (λ (c : StopCpuValue). c.table) e)
      (ap (λ (c : StopCpuValue). c.setting) e) (ap (λ (c : StopCpuValue). c.number) e) (ap (λ (c : StopCpuValue). c.part.begun) e)
      (ap (λ (c : StopCpuValue). c.part.collected) e) (ap (λ (c : StopCpuValue). c.part.calls) e)
      (beginning_still old.stops.moves new.stops.moves (ap (λ (c : StopCpuValue). c.moves) e))) (ap (λ (c : StopCpuValue). c.part.calls) e) p.0 p.1
      (serves_next m old new slot t) (own_still old.stops new.stops (ap (λ (c : StopCpuValue). c.part.calls) e)
      (ap (λ (c : StopCpuValue). c.part.begun) e) (ap (λ (c : StopCpuValue). c.pending) e) (ap (λ (c : StopCpuValue). c.part.answers) e)
      (front_early m old.stops new.stops t.front slot t.stops_are) (ap (λ (c : StopCpuValue). c.part.calling) e))
      (hears_none old new (ap (λ (c : StopCpuValue). c.part.looks) e) (ap (λ (c : StopCpuValue). c.irq) e) t.heard_are
      (ap (λ (c : CallCpuValue). c.part.asked) t.calls_are)))

  pub works_take : (m : MachineValue) (old new : MachineCpuValue) (h : H) (f : F) (there : Bool) (o : Option Inside) → old.stops.inside ≡ o
      → TakesWork m old new there → Works hears leads old h f new h f (own_of old)
  works_take m old new h f there None is t = let n = t.next is in works_next m old new h f n.0 n.1
  works_take m old new h f there (Some stop) is t = works_as hears leads (own_of old) (ap own_of (t.in_hand (some_not is)).0)
      (subst (λ (x : MachineCpuValue). Works hears leads old h f x h f (own_of x)) (sym (t.in_hand (some_not is)).0) (works_none hears leads old h f))

  -- a turn and a take
  pub works_turned : (m : MachineValue) (old mid new : MachineCpuValue) (h h₁ : H) (f f₁ : F) (there : Bool)
      → Works hears leads old h f mid h₁ f₁ (own_of old) → TakesWork m mid new there → Works hears leads old h f new h₁ f₁ (own_of old)
  works_turned m old mid new h h₁ f f₁ there a t =
      works_as hears leads (own_of old) a.own_is (works_then hears leads a (works_take m mid new h₁ f₁ there mid.stops.inside refl t))

  -- a turn, a take, and turns until the work is completed
  pub works_poll : (m : MachineValue) (old mid taken new : MachineCpuValue) (h h₁ h₂ : H) (f f₁ f₂ : F) (there : Bool)
      → Works hears leads old h f mid h₁ f₁ (own_of old) → TakesWork m mid taken there → Works hears leads taken h₁ f₁ new h₂ f₂ (own_of taken)
      → Works hears leads old h f new h₂ f₂ (own_of old)
  works_poll m old mid taken new h h₁ h₂ f f₁ f₂ there a t b =
      let took = works_take m mid taken h₁ f₁ there mid.stops.inside refl t in
      works_as hears leads (own_of old) (took.own_is ∙ a.own_is) (works_then hears leads (works_then hears leads a took) b)

  pub looks_poll : (m : MachineValue) (old mid taken new : MachineCpuValue) (h₁ h₂ : H) (f₁ f₂ : F) (there : Bool) → LooksOnceMore old.calls mid.calls
      → TakesWork m mid taken there → Works hears leads taken h₁ f₁ new h₂ f₂ (own_of taken) → LooksOnceOrMore old.calls new.calls
  looks_poll m old mid taken new h₁ h₂ f₁ f₂ there once t b =
      let took = works_take m mid taken h₁ f₁ there mid.stops.inside refl t in
      looks_more old mid new h₁ h₂ f₁ f₂ (works_then hears leads took b) once
