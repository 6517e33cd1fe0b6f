-- A CPU accepts, finds, takes and sends interrupts in turn, and turns its own off and on in turn.
use Rattle.trace_laws.proofs.Names.{Bool, CallEvent, CpuState, Event, LabelWords, List, Ok, Runs, Seen, Setting, StateValue, StopEvent, [], accepted, ap, arith}
use Rattle.trace_laws.proofs.Names.{call_goes, cases_lt, cpu_at, false, goes, idle_by, inl, inr, inside_goes, interrupted, is_online, may_take, moved, ne_eqb}
use Rattle.trace_laws.proofs.Names.{not, off_by, on_by, opening, refl, seen, send_by, sent, stop_goes, sym, take_by, taken, true, unseen, with_cpu, ℕ, ◌<◌}
use Rattle.trace_laws.proofs.Names.{begin_by, is_some, ◌==◌, ◌∙◌, ◌∷◌, ◌≡◌, ◌≤◌}
use Rattle.trace_model.specs.declared.event.CallEvent.TheVariants as calls
use Rattle.trace_model.specs.declared.event.Event.TheVariants as event
use Rattle.trace_model.specs.declared.event.StopEvent.TheVariants as stops
use Rattle.trace_model.specs.declared.reason.Reason.TheVariants as reason
use Rattle.trace_model.specs.declared.call.Place.{Place}
use Rattle.trace_model.specs.Calls.{entered_by, on_cpu, placed_unless}
use Rattle.trace_model.specs.Cpu.{as_idle}
use Rattle.trace_model.specs.State.{place_at}
use Rattle.trace_laws.proofs.Calls.CallEvents.{made_on_cpu}
use Rattle.trace_laws.proofs.Calls.LostQueues.{interrupts_are_told}
use Rattle.trace_laws.proofs.Calls.MadeSteps.{both_made, failed, low_event, passed}
use Rattle.trace_laws.proofs.Calls.Targets.{is_there}
use Rattle.trace_laws.proofs.Stops.AtRun.{rounds_of, runs_last, setting_at_first, setting_runs}
use Rattle.trace_laws.specs.Interrupts.{FindsInterrupt, FindsSwitch, InterruptsTakeTurns, SendsHaveTargets, SwitchesTakeTurns}
use Rattle.trace_laws.specs.LostQueues.{InterruptIsTold}
use Rattle.trace_laws.specs.StopEvents.{seen_from, seen_if, seen_next}

-- What a CPU has where it accepts an interrupt.
record Accepts (a : CpuState) : Type 0 where
  irq : a.irq ≡ true
  pending : a.pending ≡ true

accepts_so : (a b : CpuState) → accepted a ≡ Ok b → Accepts a
accepts_so a b e = search (passed, both_made, arith)

-- What it has where it has looked for one, and there was none.
record IsIdle (a : CpuState) : Type 0 where
  irq : a.irq ≡ true
  pending : a.pending ≡ false

idle_so : (a : CpuState) (u : Unit {0}) → as_idle a ≡ Ok u → IsIdle a
idle_so a u e = search (passed, failed, both_made, arith)

-- What it has where it takes its queue.
record Takes (told : Bool) (a : CpuState) : Type 0 where
  irq : a.irq ≡ true
  accepted : told ≡ true → a.accepted ≡ true

takes_so : (told : Bool) (a : CpuState) (u : Unit {0}) → may_take told a ≡ Ok u → Takes told a
takes_so told a u e = search (passed, failed, both_made, arith)

accept_finds : (cpu : ℕ) (s t : StateValue) → goes cpu (event.Call calls.Accept) s ≡ Ok t → Accepts (cpu_at s cpu)
unfolding call_goes
accept_finds cpu s t e = let m = made_on_cpu cpu s t (accepted (cpu_at s cpu)) e in accepts_so (cpu_at s cpu) m.0 m.1.0

idle_finds : (cpu : ℕ) (s t : StateValue) → goes cpu (event.Call calls.Idle) s ≡ Ok t → IsIdle (cpu_at s cpu)
unfolding call_goes
idle_finds cpu s t e = let m = both_made (idle_by cpu s) (λ u. Ok s) t e in idle_so (cpu_at s cpu) m.0 m.1.0

take_finds : (cpu : ℕ) (s t : StateValue) → goes cpu (event.Call calls.Take) s ≡ Ok t → Takes (not s.setting.without.interrupts) (cpu_at s cpu)
unfolding take_by
take_finds cpu s t e =
    let told = not s.setting.without.interrupts in
    let m = both_made (may_take told (cpu_at s cpu)) (λ u. Ok (with_cpu cpu (moved cpu s) (taken (cpu_at s cpu)))) t e in
    takes_so told (cpu_at s cpu) m.0 m.1.0

entered_irq : (order : Bool) (cpu id func info : ℕ) (place : Place) (s : StateValue) (c : CpuState)
    → entered_by order cpu (record { id = id; func = func; info = info }) place s ≡ Ok c → (cpu_at s cpu).irq ≡ true
entered_irq true cpu id func info place s c e = (passed (cpu_at s cpu).irq _ _ c e).0
entered_irq false cpu id func info place s c e = (passed (cpu_at s cpu).irq _ _ c e).0

begin_finds : (cpu id func info : ℕ) (s t : StateValue) → goes cpu (event.Call (calls.Begin id func info)) s ≡ Ok t → (cpu_at s cpu).irq ≡ true
unfolding call_goes begin_by
begin_finds cpu id func info s t e =
    let order = s.setting.without.order in
    let unless = is_some (cpu_at s cpu).current in
    let made = entered_by order cpu (record { id = id; func = func; info = info }) (place_at s id) s in
    let m = both_made (on_cpu cpu s made) (λ x. Ok (placed_unless unless cpu id x)) t e in
    let c = made_on_cpu cpu s m.0 made m.1.0 in
    entered_irq order cpu id func info (place_at s id) s c.0 c.1.0

-- a CPU from 32 on is in no stop, and its events tell nothing of stops
seen_elsewhere : (actor cpu : ℕ) (new v : Seen) → actor < 32 → 32 ≤ cpu → seen_if (actor == cpu) new v ≡ v
seen_elsewhere actor cpu new v low high = let no : (actor == cpu) ≡ false = ne_eqb actor cpu (λ e. omega arith) in rw no refl

seen_stop : (cpu actor : ℕ) (v : Seen) (e : StopEvent) (s t : StateValue) → 32 ≤ cpu → stop_goes actor e s ≡ Ok t → seen_next cpu v (actor, event.Stop e) ≡ v
unfolding stop_goes
seen_stop cpu actor v e s t high g = search (low_event, seen_elsewhere, arith)

seen_goes : (cpu actor : ℕ) (v : Seen) (e : Event) (s t : StateValue) → 32 ≤ cpu → goes actor e s ≡ Ok t → seen_next cpu v (actor, e) ≡ v
seen_goes cpu actor v (event.Call e) s t high g = refl
seen_goes cpu actor v (event.Stop e) s t high g = seen_stop cpu actor v e s t high g
seen_goes cpu actor v (event.Label e) s t high g = refl

seen_runs : (cpu : ℕ) (v : Seen) (es : List (ℕ × Event)) (s t : StateValue) → 32 ≤ cpu → Runs s es t → seen_from cpu v es ≡ v
unfolding seen_from
seen_runs cpu v [] s t high run = refl
seen_runs cpu v (e ∷ es) s t high (m, (g, run)) =
    ap (λ x. seen_from cpu x es) (seen_goes cpu e.0 v e.1 s m high g) ∙ seen_runs cpu v es m t high run

-- What the events tell of a CPU's interrupts.
record IrqIsTold (es : List (ℕ × Event)) (s : StateValue) (cpu : ℕ) : Type 0 where
  here : cpu < 32 → (cpu_at s cpu).irq ≡ (seen cpu es).irq
  away : 32 ≤ cpu → (seen cpu es).irq ≡ true

irq_told : (u : Setting) (words : LabelWords) (es : List (ℕ × Event)) (s : StateValue) (cpu : ℕ) → Runs (opening u words) es s
    → u.without.switches ≡ false → IrqIsTold es s cpu
irq_told u words es s cpu run told =
    let r = rounds_of u words es s run in
    let set : s.setting ≡ u = setting_runs es (opening u words) s run ∙ setting_at_first u words in
    record {
      here = λ low. (r.cpu cpu low).irq_is (ap (λ x. x.without.switches) set ∙ told);
      away = λ high. ap (λ v. v.irq) (seen_runs cpu unseen es (opening u words) s high run);
    }

on_told : (es : List (ℕ × Event)) (s : StateValue) (cpu : ℕ) → IrqIsTold es s cpu → (cpu_at s cpu).irq ≡ true → (seen cpu es).irq ≡ true
on_told es s cpu i on = elim (cases_lt cpu 32) [
  | inl low ↦ sym (i.here low) ∙ on
  | inr high ↦ i.away high
]

off_finds : (cpu : ℕ) (s t : StateValue) → off_by cpu s ≡ Ok t → (cpu_at s cpu).irq ≡ true
unfolding off_by
off_finds cpu s t e = search (both_made, passed, arith)

on_finds : (cpu : ℕ) (s t : StateValue) → on_by cpu s ≡ Ok t → (cpu_at s cpu).irq ≡ false
unfolding on_by
on_finds cpu s t e = search (both_made, failed, arith)

finds_switch : (cpu : ℕ) (e : Event) (es : List (ℕ × Event)) (s t : StateValue) → IrqIsTold es s cpu → goes cpu e s ≡ Ok t → FindsSwitch cpu e es
unfolding stop_goes inside_goes
finds_switch cpu (event.Stop stops.Off) es s t i e = on_told es s cpu i (off_finds cpu s t (low_event cpu _ t e).1)
finds_switch cpu (event.Stop stops.On) es s t i e = let m = low_event cpu _ t e in sym (i.here m.0) ∙ on_finds cpu s t m.1
finds_switch cpu (event.Call calls.Accept) es s t i e = on_told es s cpu i (accept_finds cpu s t e).irq
finds_switch cpu (event.Call calls.Idle) es s t i e = on_told es s cpu i (idle_finds cpu s t e).irq
finds_switch cpu (event.Call calls.Take) es s t i e = on_told es s cpu i (take_finds cpu s t e).irq
finds_switch cpu (event.Call (calls.Begin id func info)) es s t i e = on_told es s cpu i (begin_finds cpu id func info s t e)
finds_switch cpu _ es s t i e = tt

pub switches_take_turns : SwitchesTakeTurns
switches_take_turns u words es t cpu e run told =
    let m = runs_last es (cpu, e) (opening u words) t run in
    finds_switch cpu e es m.0 t (irq_told u words es m.0 cpu m.1.0 told) m.1.1

finds_interrupt : (u : Setting) (cpu : ℕ) (e : CallEvent) (es : List (ℕ × Event)) (s t : StateValue) → s.setting ≡ u → InterruptIsTold u es s cpu
    → goes cpu (event.Call e) s ≡ Ok t → FindsInterrupt u cpu e es
finds_interrupt u cpu calls.Accept es s t set i e = sym i.pending ∙ (accept_finds cpu s t e).pending
finds_interrupt u cpu calls.Idle es s t set i e = sym i.pending ∙ (idle_finds cpu s t e).pending
finds_interrupt u cpu calls.Take es s t set i e = λ told.
    sym i.accepted ∙ (take_finds cpu s t e).accepted (ap (λ x. not x.without.interrupts) set ∙ ap not told)
finds_interrupt u cpu _ es s t set i e = tt

pub interrupts_take_turns : InterruptsTakeTurns
interrupts_take_turns u words es t cpu e run low =
    let m = runs_last es (cpu, event.Call e) (opening u words) t run in
    let set : m.0.setting ≡ u = setting_runs es (opening u words) m.0 m.1.0 ∙ setting_at_first u words in
    finds_interrupt u cpu e es m.0 t set (interrupts_are_told u words es m.0 m.1.0 cpu low) m.1.1

-- an interrupt is sent so
sent_so : (cpu to : ℕ) (s t : StateValue) → goes cpu (event.Call (calls.Send to)) s ≡ Ok t → is_online s.setting to ≡ true
unfolding call_goes send_by
sent_so cpu to s t e =
    let m = with_cpu to s (interrupted (cpu_at s to)) in
    (passed (is_online s.setting to) (Ok (with_cpu cpu m (sent to (cpu_at m cpu)))) (reason.NotOnline to) t e).0

pub sends_have_targets : SendsHaveTargets
sends_have_targets u words es t cpu to run =
    let m = runs_last es (cpu, event.Call (calls.Send to)) (opening u words) t run in
    let set : m.0.setting ≡ u = setting_runs es (opening u words) m.0 m.1.0 ∙ setting_at_first u words in
    is_there u to (ap (λ v. is_online v to) (sym set) ∙ sent_so cpu to m.0 t m.1.1)
