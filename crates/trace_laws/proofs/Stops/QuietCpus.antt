-- Events of calls leave stops as they are, and a CPU whose interrupts are off handles nothing.
use Rattle.trace_laws.proofs.Names.{other_by, owing, pushed_other}
use Rattle.trace_laws.proofs.Calls.CallEvents.{either_state}
use Rattle.trace_laws.proofs.Names.{arith, Bool, Call, CallEvent, Class, CpuState, Current, Err, Free, List, None, Ok, Option, Progress, Queue, Reason, Result}
use Rattle.trace_laws.proofs.Names.{Some, StateValue, [], accepted, begin_by, begun, begun_any, begun_at, begun_loose, begun_with, call_at, call_goes, cases_eq}
use Rattle.trace_laws.proofs.Names.{cpu_at, end_by, ended, ended_at, ended_with, entered_by, false, freed, freed_by, freed_from, freed_if, front_of, goes}
use Rattle.trace_laws.proofs.Names.{handles_nothing, idle_by, if◌then◌else◌, interrupted, is_bare, is_batch, is_online, is_some, joined, length, length-set}
use Rattle.trace_laws.proofs.Names.{loose_with, may_take, moved, not, not_over, noted, on_cpu, over_with, place_at, place_in, place_reason, placed_unless}
use Rattle.trace_laws.proofs.Names.{pushed, queue_by, quiet_with, refl, runs_locked, send_by, sent, slipped, slipped_any, slipped_at, slipped_from_batch}
use Rattle.trace_laws.proofs.Names.{slipped_from_queue, slipped_front, subst, take_by, taken, true, unlock_by, unlocked, unlocked_running, unlocked_with}
use Rattle.trace_laws.proofs.Names.{with_cpu, with_place, ℕ, ◌&&◌, ◌<◌, ◌==◌, ◌>>=◌, ◌∙◌, ◌∷◌, ◌≡◌}
use Rattle.trace_model.specs.declared.event.CallEvent.TheVariants as calls
use Rattle.trace_model.specs.declared.event.Event.TheVariants as event
use Rattle.trace_model.specs.declared.reason.Reason.TheVariants as reason
use Rattle.trace_model.specs.{State.slipped_at as slipped_state, declared.call.Place.Place}
use Rattle.trace_laws.proofs.{Calls.CallEvents.made_on_cpu, Calls.CpuSteps.either, Calls.MadeSteps.both_made, Calls.MadeSteps.failed, Calls.MadeSteps.passed}
use Rattle.trace_laws.proofs.{Calls.StateSteps.cpu_changed, Calls.StateSteps.cpu_kept}

-- A CPU is in the stop that it was in, with its interrupts as they were; where these are off, it still handles nothing.
pub record Rests (a b : CpuState) : Type 0 where
  pub inside : b.inside ≡ a.inside
  pub irq : b.irq ≡ a.irq
  pub quiet : a.irq ≡ false → handles_nothing a ≡ Ok tt → handles_nothing b ≡ Ok tt

rests_end : (a b c : CpuState) → b ≡ c → Rests a b → Rests a c
rests_end a b c same r = subst (λ (x : CpuState). Rests a x) same r

pub rests_same : (a : CpuState) → Rests a a
rests_same a = record { inside = refl; irq = refl; quiet = λ off q. q }

-- where nothing is handled, no call that was taken is left
idle_with : (current : Option Current) (batch : List Call) (accepted : Bool) → quiet_with (over_with current batch) accepted ≡ Ok tt → (current ≡ None) ×
    (batch ≡ [])
idle_with (Some x) batch accepted e = absurd cc
idle_with None (x ∷ xs) accepted e = absurd cc
idle_with None [] accepted e = (refl, refl)

pub idle_is : (a : CpuState) → handles_nothing a ≡ Ok tt → (a.current ≡ None) × (a.batch ≡ [])
idle_is a e = idle_with a.current a.batch a.accepted e

-- interrupts are on
needs_irq : (irq : Bool) → irq ≡ true → irq ≡ false → ⊥
needs_irq irq t f = cc

-- a call that is there is one that is not over
has_current : (a : CpuState) (x : Current) → a.current ≡ Some x → handles_nothing a ≡ Ok tt → ⊥
has_current a x is q = let i = idle_is a q in let none : a.current ≡ None = i.0 in cc

has_front : (a : CpuState) (x : Call) (xs : List Call) → a.batch ≡ x ∷ xs → handles_nothing a ≡ Ok tt → ⊥
has_front a x xs is q = let i = idle_is a q in let none : a.batch ≡ [] = i.1 in cc

rests_accepted : (a b : CpuState) → accepted a ≡ Ok b → Rests a b
rests_accepted a b h1 = search (passed, both_made, rests_end, needs_irq, arith)

rests_taken : (told : Bool) (a : CpuState) (u : Unit {0}) → may_take told a ≡ Ok u → Rests a (taken a)
rests_taken told a u e =
    let p = passed a.irq (not_over a >>= λ v. if told && not a.accepted then Err reason.NoInterruptAccepted else Ok tt) reason.InterruptsOff u e in
    record { inside = refl; irq = refl; quiet = λ off x. absurd (needs_irq a.irq p.0 off) }

rests_running : (progress : Progress) (class : Class) (r : ℕ) (elsewhere : Reason) (x : Current) (a b : CpuState) → a.current ≡ Some x
    → unlocked_running progress class r elsewhere a ≡ Ok b → Rests a b
rests_running progress class r elsewhere x a b h1 h2 = search (rests_end, has_current, arith)

front_left : (r : ℕ) (here : Bool) (elsewhere : Reason) (a : CpuState) (front : Call) → front_of r here elsewhere a.batch ≡ Ok front →
    handles_nothing a ≡ Ok tt → ⊥
front_left r true elsewhere a front e q = let i = idle_is a q in let none : front_of r true elsewhere [] ≡ Ok front = rw i.1 at e in cc
front_left r false elsewhere a front e q = cc

rests_with : (current : Option Current) (r : ℕ) (here : Bool) (elsewhere : Reason) (a b : CpuState) → a.current ≡ current
    → unlocked_with current r here elsewhere a ≡ Ok b → Rests a b
rests_with current r here elsewhere a b h1 h2 = search (passed, rests_running, both_made, failed, rests_end, front_left, arith)

pub rests_unlocked : (r : ℕ) (here : Bool) (elsewhere : Reason) (a b : CpuState) → unlocked r here elsewhere a ≡ Ok b → Rests a b
rests_unlocked r here elsewhere a b e = rests_with a.current r here elsewhere a b refl e

rests_on : (a b : CpuState) → a.irq ≡ true → b.inside ≡ a.inside → b.irq ≡ a.irq → Rests a b
rests_on a b on inside irq = record { inside = inside; irq = irq; quiet = λ off x. absurd (needs_irq a.irq on off) }

rests_begun_at : (progress : Progress) (id func info : ℕ) (call : Call) (a b : CpuState) → a.irq ≡ true →
    begun_at progress (record { id = id; func = func; info = info }) call a ≡ Ok b → Rests a b
rests_begun_at progress id func info call a b h1 h2 = search (passed, both_made, rests_end, rests_on, arith)

rests_begun_with : (current : Option Current) (id func info : ℕ) (here : Bool) (elsewhere : Reason) (unlocks : Bool) (a b : CpuState) → a.irq ≡ true
    → begun_with current (record { id = id; func = func; info = info }) here elsewhere unlocks a ≡ Ok b → Rests a b
rests_begun_with current id func info here elsewhere unlocks a b h1 h2 = search (rests_begun_at, both_made, failed, rests_end, rests_on, arith)

rests_begun : (id func info : ℕ) (here : Bool) (elsewhere : Reason) (unlocks : Bool) (a b : CpuState) →
    begun (record { id = id; func = func; info = info }) here elsewhere unlocks a ≡ Ok b → Rests a b
rests_begun id func info here elsewhere unlocks a b e =
    let p = passed a.irq (begun_with a.current (record { id = id; func = func; info = info }) here elsewhere unlocks a) reason.InterruptsOff b e in
    rests_begun_with a.current id func info here elsewhere unlocks a b p.0 p.1

rests_any : (id func info : ℕ) (elsewhere : Reason) (a b : CpuState) (at : Option ℕ) (found : Option Call) → a.irq ≡ true →
    begun_any (record { id = id; func = func; info = info }) a at found elsewhere ≡ Ok b → Rests a b
rests_any id func info elsewhere a b at found h1 h2 = search (both_made, rests_end, rests_on, arith)

rests_loose_with : (current : Option Current) (id func info : ℕ) (elsewhere : Reason) (a b : CpuState) → a.irq ≡ true →
    loose_with current (record { id = id; func = func; info = info }) elsewhere a ≡ Ok b → Rests a b
rests_loose_with (Some x) id func info elsewhere a b on e = rests_begun_at x.progress id func info x.call a b on e
rests_loose_with None id func info elsewhere a b on e = rests_any id func info elsewhere a b (place_in id a.queue) (call_at a.queue (place_in id a.queue)) on e

rests_loose : (id func info : ℕ) (elsewhere : Reason) (a b : CpuState) → begun_loose (record { id = id; func = func; info = info }) elsewhere a ≡ Ok b →
    Rests a b
rests_loose id func info elsewhere a b e =
    let p = passed a.irq (loose_with a.current
    (record { id = id; func = func; info = info }) elsewhere a) reason.InterruptsOff b e in rests_loose_with a.current id func info elsewhere a b p.0 p.1

rests_ended_at : (progress : Progress) (call : Call) (r : ℕ) (unlocks : Bool) (x : Current) (a b : CpuState) → a.current ≡ Some x →
    ended_at progress call r unlocks a ≡ Ok b → Rests a b
rests_ended_at progress call r unlocks x a b h1 h2 = search (passed, rests_end, has_current, arith)

rests_ended_with : (current : Option Current) (r : ℕ) (unlocks : Bool) (a b : CpuState) → a.current ≡ current → ended_with current r unlocks a ≡ Ok b →
    Rests a b
rests_ended_with None r unlocks a b is e = absurd cc
rests_ended_with (Some x) r unlocks a b is e = rests_ended_at x.progress x.call r unlocks x a b is e

rests_ended : (r : ℕ) (unlocks : Bool) (a b : CpuState) → ended r unlocks a ≡ Ok b → Rests a b
rests_ended r unlocks a b e = rests_ended_with a.current r unlocks a b refl e

rests_front : (r : ℕ) (a : CpuState) (current : Option Current) (batch : List Call) → a.batch ≡ batch → Rests a (slipped_front r a current batch).1
rests_front r a current batch h1 = search (either, has_front, rests_same, arith)

rests_from_batch : (r : ℕ) (a : CpuState) → Rests a (slipped_from_batch r a).1
rests_from_batch r a = rests_front r a a.current a.batch refl

rests_slipped_any : (a : CpuState) (at : Option ℕ) (found : Option Call) → a.irq ≡ true → Rests a (slipped_any a at found).1
rests_slipped_any a at found h1 = search (either, rests_on, rests_same, arith)

rests_slipped_at : (current : Option Current) (irq : Bool) (r : ℕ) (a : CpuState) → a.irq ≡ irq → Rests a (slipped_at current irq r a).1
rests_slipped_at None true r a on = rests_slipped_any a (place_in r a.queue) (call_at a.queue (place_in r a.queue)) on
rests_slipped_at None false r a on = rests_same a
rests_slipped_at (Some x) irq r a on = rests_same a

rests_from_queue : (r : ℕ) (a : CpuState) → Rests a (slipped_from_queue r a).1
rests_from_queue r a = rests_slipped_at a.current a.irq r a refl

-- The gate, stops, keys and sites are as they were, and each CPU rests.
pub record KeepsRounds (s t : StateValue) : Type 0 where
  pub setting_is : t.setting ≡ s.setting
  pub cpus_are : length t.cpus ≡ length s.cpus
  pub gate_is : t.gate ≡ s.gate
  pub stops_are : t.stops ≡ s.stops
  pub words_are : t.words ≡ s.words
  pub rests : (cpu : ℕ) → cpu < length s.cpus → Rests (cpu_at s cpu) (cpu_at t cpu)

keeps_end : (s t u : StateValue) → t ≡ u → KeepsRounds s t → KeepsRounds s u
keeps_end s t u same k = subst (λ (x : StateValue). KeepsRounds s x) same k

keeps_cpu : (actor : ℕ) (s : StateValue) (c : CpuState) → Rests (cpu_at s actor) c → KeepsRounds s (with_cpu actor s c)
keeps_cpu actor s c h1 = search (length-set, cases_eq, cpu_changed, cpu_kept, rests_same, arith)

keeps_same : (s t : StateValue) → t.setting ≡ s.setting → t.cpus ≡ s.cpus → t.gate ≡ s.gate → t.stops ≡ s.stops → t.words ≡ s.words → KeepsRounds s t
keeps_same s t h1 h2 h3 h4 h5 = search (rests_same, arith)

then_rests : (a b c : CpuState) → Rests a b → Rests b c → Rests a c
then_rests a b c h1 h2 = search arith

keeps_then : (s m t : StateValue) → KeepsRounds s m → KeepsRounds m t → KeepsRounds s t
keeps_then s m t p q = record {
  setting_is = q.setting_is ∙ p.setting_is;
  cpus_are = q.cpus_are ∙ p.cpus_are;
  gate_is = q.gate_is ∙ p.gate_is;
  stops_are = q.stops_are ∙ p.stops_are;
  words_are = q.words_are ∙ p.words_are;
  rests = λ cpu below. then_rests (cpu_at s cpu) (cpu_at m cpu) (cpu_at t cpu) (p.rests cpu below) (q.rests cpu (rw p.cpus_are below));
}

keeps_refl : (s : StateValue) → KeepsRounds s s
keeps_refl s = keeps_same s s refl refl refl refl refl

either_keeps : (s : StateValue) (test : Bool) (x : Bool × StateValue) → KeepsRounds s x.1 → let z : Bool ×
    StateValue = if test then x else (false, s) in KeepsRounds s z.1
either_keeps s true x k = k
either_keeps s false x k = keeps_refl s

keeps_slipped_at : (order : Bool) (id : ℕ) (place : Place) (s : StateValue) → KeepsRounds s (slipped_state order id place s).1
keeps_slipped_at order id place s = search (either_keeps, keeps_cpu, rests_from_queue, rests_from_batch, keeps_refl, arith)

keeps_slipped : (id : ℕ) (place : Place) (s : StateValue) → KeepsRounds s (slipped id place s).1
keeps_slipped id place s =
    either_keeps s s.setting.without.unlocks (slipped_state s.setting.without.order id place s) (keeps_slipped_at s.setting.without.order id place s)

keeps_freed_by : (id : ℕ) (place : Place) (s t : StateValue) (slip : Bool × StateValue) → KeepsRounds s slip.1 → freed_by id place slip ≡ Ok t → KeepsRounds s t
keeps_freed_by id place s t (true, m) k e =
    keeps_end s (with_place id Free m) t (cc) (keeps_then s m (with_place id Free m) k (keeps_same m (with_place id Free m) refl refl refl refl refl))
keeps_freed_by id place s t (false, m) k e = absurd cc

keeps_freed_from : (id : ℕ) (place : Place) (s t : StateValue) → freed_from id place s ≡ Ok t → KeepsRounds s t
keeps_freed_from id place s t h1 = search (keeps_end, keeps_refl, keeps_freed_by, keeps_slipped, arith)

keeps_freed : (id : ℕ) (s t : StateValue) → freed id s ≡ Ok t → KeepsRounds s t
keeps_freed id s t e = keeps_freed_from id (place_at s id) s t e

keeps_joined : (call : Call) (to : ℕ) (s : StateValue) → KeepsRounds s (joined call to s)
keeps_joined call to s =
    let m = with_cpu to s (pushed call (cpu_at s to)) in
    let u = with_place call.id (Queue to) m in
    let first = is_bare (cpu_at s to) in
    let c = noted to first (cpu_at u call.source) in
    keeps_then s m (joined call to s) (keeps_cpu to s (pushed call (cpu_at s to)) (record { inside = refl; irq = refl; quiet = λ off q. q }))
    (keeps_then m u (joined call to s) (keeps_same m u refl refl refl refl refl) (keeps_cpu call.source u c
    (record { inside = refl; irq = refl; quiet = λ off q. q })))

keeps_queue : (source id to : ℕ) (class : Class) (func info : ℕ) (s t : StateValue)
    → queue_by (record { source = source; id = id; class = class; func = func; info = info }) to s ≡ Ok t → KeepsRounds s t
unfolding queue_by
keeps_queue source id to class func info s t e =
    let call : Call = record { source = source; id = id; class = class; func = func; info = info } in
    let p = passed (is_online s.setting to) (if to == source then Err (reason.IsCaller to) else (freed id s >>= λ m. Ok (joined call to m)))
    (reason.NotOnline to) t e in
    let q = failed (to == source) (freed id s >>= λ m. Ok (joined call to m)) (reason.IsCaller to) t p.1 in
    let m = both_made (freed id s) (λ m. Ok (joined call to m)) t q.1 in
    keeps_then s m.0 t (keeps_freed id s m.0 m.1.0) (keeps_end m.0 (joined call to m.0) t (cc) (keeps_joined call to m.0))

keeps_send : (actor to : ℕ) (s t : StateValue) → send_by actor to s ≡ Ok t → KeepsRounds s t
unfolding send_by
keeps_send actor to s t e =
    let m = with_cpu to s (interrupted (cpu_at s to)) in
    let d = sent to (cpu_at m actor) in
    let p = passed (is_online s.setting to) (Ok (with_cpu actor m d)) (reason.NotOnline to) t e in
    keeps_end s (with_cpu actor m d) t (cc)
    (keeps_then s m (with_cpu actor m d) (keeps_cpu to s (interrupted (cpu_at s to)) (record { inside = refl; irq = refl; quiet = λ off q. q }))
    (keeps_cpu actor m d (record { inside = refl; irq = refl; quiet = λ off q. q })))

keeps_other : (actor to : ℕ) (s t : StateValue) → other_by actor to s ≡ Ok t → KeepsRounds s t
unfolding other_by
keeps_other actor to s t e =
    let c = pushed_other (cpu_at s to) in
    let m = with_cpu to s c in
    let d = owing to (is_bare (cpu_at s to)) (cpu_at m actor) in
    let n = with_cpu actor m d in
    let x = if s.setting.without.order then s else n in
    let p = passed (is_online s.setting to) (if to == actor then Err (reason.IsCaller to) else Ok x) (reason.NotOnline to) t e in
    let q = failed (to == actor) (Ok x) (reason.IsCaller to) t p.1 in
    let first = keeps_cpu to s c (record { inside = refl; irq = refl; quiet = λ off q. q }) in
    let second = keeps_cpu actor m d (record { inside = refl; irq = refl; quiet = λ off q. q }) in
    keeps_end s x t (cc) (either_state (KeepsRounds s) s.setting.without.order s n (keeps_refl s) (keeps_then s m n first second))

keeps_made : (actor : ℕ) (s t : StateValue) (made : Result CpuState Reason) → on_cpu actor s made ≡ Ok t → ((c : CpuState) → made ≡ Ok c →
    Rests (cpu_at s actor) c) → KeepsRounds s t
keeps_made actor s t made e rests =
    let m = made_on_cpu actor s t made e in keeps_end s (with_cpu actor s m.0) t m.1.1 (keeps_cpu actor s m.0 (rests m.0 m.1.0))

keeps_take : (actor : ℕ) (s t : StateValue) → take_by actor s ≡ Ok t → KeepsRounds s t
unfolding take_by
keeps_take actor s t e =
    let x = with_cpu actor (moved actor s) (taken (cpu_at s actor)) in
    let m = both_made (may_take (not s.setting.without.interrupts) (cpu_at s actor)) (λ u. Ok x) t e in
    keeps_end s x t (cc) (keeps_then s (moved actor s) x (keeps_same s (moved actor s) refl refl refl refl refl)
    (keeps_cpu actor (moved actor s) (taken (cpu_at s actor)) (rests_taken (not s.setting.without.interrupts) (cpu_at s actor) m.0 m.1.0)))

keeps_unlock : (actor id : ℕ) (s t : StateValue) → unlock_by actor id s ≡ Ok t → KeepsRounds s t
unfolding unlock_by
keeps_unlock actor id s t e =
    let here = is_batch (place_at s id) actor in
    let elsewhere = place_reason id (place_at s id) in
    let made = unlocked id here elsewhere (cpu_at s actor) in
    let n = both_made (on_cpu actor s made) (λ x. Ok (with_place id Free x)) t e in
    keeps_then s n.0 t (keeps_made actor s n.0 made n.1.0 (λ c f. rests_unlocked id here elsewhere (cpu_at s actor) c f))
    (keeps_end n.0 (with_place id Free n.0) t (cc) (keeps_same n.0 (with_place id Free n.0) refl refl refl refl refl))

rests_entered : (order : Bool) (actor : ℕ) (id func info : ℕ) (place : Place) (s : StateValue) (c : CpuState) →
    entered_by order actor (record { id = id; func = func; info = info }) place s ≡ Ok c → Rests (cpu_at s actor) c
rests_entered true actor id func info place s c e = rests_loose id func info (place_reason id place) (cpu_at s actor) c e
rests_entered false actor id func info place s c e = rests_begun id func info (is_batch place actor) (place_reason id place) (not s.setting.without.unlocks)
    (cpu_at s actor) c e

keeps_placed : (unless : Bool) (actor id : ℕ) (s : StateValue) → KeepsRounds s (placed_unless unless actor id s)
keeps_placed true actor id s = keeps_refl s
keeps_placed false actor id s = keeps_same s (placed_unless false actor id s) refl refl refl refl refl

keeps_begin : (actor id func info : ℕ) (s t : StateValue) → begin_by actor (record { id = id; func = func; info = info }) s ≡ Ok t → KeepsRounds s t
unfolding begin_by
keeps_begin actor id func info s t e =
    let unless = is_some (cpu_at s actor).current in
    let made = entered_by s.setting.without.order actor (record { id = id; func = func; info = info }) (place_at s id) s in
    let n = both_made (on_cpu actor s made) (λ x. Ok (placed_unless unless actor id x)) t e in
    keeps_then s n.0 t (keeps_made actor s n.0 made n.1.0 (λ c f. rests_entered s.setting.without.order actor id func info (place_at s id) s c f))
    (keeps_end n.0 (placed_unless unless actor id n.0) t (cc) (keeps_placed unless actor id n.0))

keeps_freed_if : (test : Bool) (id : ℕ) (s : StateValue) → KeepsRounds s (freed_if test id s)
keeps_freed_if true id s = keeps_same s (freed_if true id s) refl refl refl refl refl
keeps_freed_if false id s = keeps_refl s

keeps_ended : (actor id : ℕ) (s t : StateValue) → end_by actor id s ≡ Ok t → KeepsRounds s t
unfolding end_by
keeps_ended actor id s t e =
    let unlocks = not s.setting.without.unlocks in
    let made = ended id unlocks (cpu_at s actor) in
    let test = runs_locked (cpu_at s actor) && s.setting.without.unlocks in
    let n = both_made (on_cpu actor s made) (λ x. Ok (freed_if test id x)) t e in
    keeps_then s n.0 t (keeps_made actor s n.0 made n.1.0 (λ c f. rests_ended id unlocks (cpu_at s actor) c f))
    (keeps_end n.0 (freed_if test id n.0) t (cc) (keeps_freed_if test id n.0))

-- an event of calls leaves stops as they are
pub call_keeps_rounds : (actor : ℕ) (e : CallEvent) (s t : StateValue) → goes actor (event.Call e) s ≡ Ok t → KeepsRounds s t
unfolding call_goes
call_keeps_rounds actor (calls.Queue id to class func info) s t e = keeps_queue actor id to class func info s t e
call_keeps_rounds actor (calls.Free id) s t e = keeps_freed id s t e
call_keeps_rounds actor (calls.QueueOther to node) s t e = keeps_other actor to s t e
call_keeps_rounds actor (calls.Send to) s t e = keeps_send actor to s t e
call_keeps_rounds actor calls.Accept s t e = keeps_made actor s t (accepted (cpu_at s actor)) e (λ c f. rests_accepted (cpu_at s actor) c f)
call_keeps_rounds actor calls.Idle s t e = let m = both_made (idle_by actor s) (λ u. Ok s) t e in keeps_end s s t (cc) (keeps_refl s)
call_keeps_rounds actor calls.Take s t e = keeps_take actor s t e
call_keeps_rounds actor (calls.Unlock id) s t e = keeps_unlock actor id s t e
call_keeps_rounds actor (calls.Begin id func info) s t e = keeps_begin actor id func info s t e
call_keeps_rounds actor (calls.End id) s t e = keeps_ended actor id s t e
