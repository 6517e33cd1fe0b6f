-- A CPU does for each call that it takes what is to be done, one call after the other, and only then looks for more.
use Rattle.trace_laws.proofs.Names.{Async, Bool, Call, CallEvent, Class, CpuState, Current, Ended, Err, Event, Free, LabelWords, List, None, Ok, Option}
use Rattle.trace_laws.proofs.Names.{Progress, Queue, Reason, Result, Runs as RunsOf, Setting, Some, StateValue, Sync, Unlocked, [], accepted, ack_by}
use Rattle.trace_laws.proofs.Names.{acks_disabled, and_parts, ap, append-nil, append_assoc, arith, at_call, begin_by, begin_of, begins, begun, begun_at}
use Rattle.trace_laws.proofs.Names.{begun_front, call_goes, cases_eq, cpu_at, end_by, ended, ended_at, ended_with, ends, entered_by, eqb-false, eqb-true}
use Rattle.trace_laws.proofs.Names.{false, freed, freed_if, front_of, goes, handles_nothing, id_of, idle_by, if◌then◌else◌, inside_goes, interrupted}
use Rattle.trace_laws.proofs.Names.{is_async, is_bare, is_batch, is_of, is_online, is_some, is_sync, joined, left_batch, length, length-set, map, may_take}
use Rattle.trace_laws.proofs.Names.{moved, not, not_over, noted, off_by, on_cpu, only_if, opening, other_by, owing, place_at, place_reason, placed_unless}
use Rattle.trace_laws.proofs.Names.{pushed, pushed_other, queue_by, queue_next, queued_now, quiet_with, refl, rest_of, running, runs_locked, send_by, sent}
use Rattle.trace_laws.proofs.Names.{stop_goes, subst, sym, take_by, taken, taken_from, taken_now, takes_now, true, unlock_by, unlocked, unlocked_front}
use Rattle.trace_laws.proofs.Names.{unlocked_running, unlocked_with, waiting, with_cpu, with_place, ℕ, ◌&&◌, ◌++◌, ◌<◌, ◌==◌, ◌>>=◌, ◌∙◌, ◌∷◌, ◌≡◌}
use Rattle.trace_model.specs.declared.call.Place.{Place}
use Rattle.trace_model.specs.declared.event.CallEvent.TheVariants as calls
use Rattle.trace_model.specs.declared.event.Event.TheVariants as event
use Rattle.trace_model.specs.declared.event.StopEvent.TheVariants as stops
use Rattle.trace_model.specs.declared.reason.Reason.TheVariants as reason
use Rattle.trace_model.specs.Cpu.{as_idle}
use Rattle.smp_words.specs.declared.phase.TheConstants.{DISABLE_IRQ}
use Rattle.trace_laws.proofs.Calls.CallEvents.{accepted_same, either_state, made_on_cpu, may_take_over}
use Rattle.trace_laws.proofs.Calls.CpuSteps.{front_is, over_is}
use Rattle.trace_laws.proofs.Calls.LostQueues.{interrupts_are_told}
use Rattle.trace_laws.proofs.Calls.MadeSteps.{both_made, failed, low_event, passed}
use Rattle.trace_laws.proofs.Calls.OtherEvents.{KeepsCalls, label_keeps_calls, stop_keeps_calls}
use Rattle.trace_laws.proofs.Calls.ShownByRuns.{event_shows}
use Rattle.trace_laws.proofs.Calls.ShownByTraces.{begin_in_order, cpus_at_first, end_once, fresh_at, records_of}
use Rattle.trace_laws.proofs.Calls.StateSteps.{cpu_changed, cpu_kept}
use Rattle.trace_laws.proofs.Calls.TwoSteps.{joined as joined_steps}
use Rattle.trace_laws.proofs.Records.RecordTurns.{freed_told}
use Rattle.trace_laws.proofs.Stops.AtRun.{runs_last, setting_at_first, setting_runs}
unfoldable use Rattle.trace_laws.specs.HandledCalls.{acts}
use Rattle.trace_laws.specs.HandledCalls.{CallActs, CallsAreDone, FindsDone, HandlesNothing, IsDone, act_now, acts_of, acts_of_all, left, left_by, left_with}
use Rattle.trace_laws.specs.Traces.{IsTrace, OfEachTrace, record_of, taken as taken_of}

-- What a CPU does, and what is then left to do, is what was left and what it takes.
record Handles (took : List Call) (did : List CallEvent) (a b : CpuState) : Type 0 where
  is : left a ++ acts_of_all took ≡ did ++ left b

handles_end : (took : List Call) (did : List CallEvent) (a b c : CpuState) → b ≡ c → Handles took did a b → Handles took did a c
handles_end took did a b c same h = subst (λ (x : CpuState). Handles took did a x) same h

-- the call that a CPU is at and its batch are as before
record SameWork (a b : CpuState) : Type 0 where
  current : b.current ≡ a.current
  batch : b.batch ≡ a.batch

same_work : (a : CpuState) → SameWork a a
same_work a = record { current = refl; batch = refl }

handles_same : (a b : CpuState) → SameWork a b → Handles [] [] a b
handles_same a b same = record { is = rw (same.current, same.batch) (append-nil (left a)) }

-- a record is unlocked
handles_running : (progress : Progress) (class : Class) (call : Call) (r : ℕ) (elsewhere : Reason) (a b : CpuState) → a.current ≡ at_call progress call
    → call.id ≡ r → unlocked_running progress class r elsewhere a ≡ Ok b → Handles [] (calls.Unlock r ∷ []) a b
handles_running progress class call r elsewhere a b is same e = search (handles_end, append-nil, arith)

async_class : (class : Class) → is_sync class ≡ false → class ≡ Async
async_class class e = search arith

handles_front : (front : Call) (a : CpuState) → a.current ≡ None → a.batch ≡ front ∷ rest_of a.batch → front.class ≡ Async
    → Handles [] (calls.Unlock front.id ∷ []) a (left_batch Unlocked front a)
handles_front front a none is class = record { is = rw (none, is, class, append-nil) refl }

handles_unlocked_with : (current : Option Current) (r : ℕ) (here : Bool) (elsewhere : Reason) (a b : CpuState) → a.current ≡ current
    → unlocked_with current r here elsewhere a ≡ Ok b → Handles [] (calls.Unlock r ∷ []) a b
handles_unlocked_with (Some x) r here elsewhere a b is e =
    let p = passed (x.call.id == r) (unlocked_running x.progress x.call.class r elsewhere a) (reason.NotOver x.call.id) b e in
    handles_running x.progress x.call.class x.call r elsewhere a b is (eqb-true x.call.id r p.0) p.1
handles_unlocked_with None r here elsewhere a b is e =
    let m = both_made (front_of r here elsewhere a.batch) (unlocked_front r a) b e in
    let p = failed (is_sync m.0.class) (Ok (left_batch Unlocked m.0 a)) (reason.NotBegun r) b m.1.1 in
    let f = front_is r here elsewhere a.batch m.0 m.1.0 in
    handles_end [] (calls.Unlock r ∷ []) a (left_batch Unlocked m.0 a) b (cc)
    (rw f.0 at (handles_front m.0 a is f.1 (async_class m.0.class p.0)))

handles_unlocked : (r : ℕ) (here : Bool) (elsewhere : Reason) (a b : CpuState) → unlocked r here elsewhere a ≡ Ok b
    → Handles [] (calls.Unlock r ∷ []) a b
handles_unlocked r here elsewhere a b e = handles_unlocked_with a.current r here elsewhere a b refl e

-- a function is entered
begin_is : (id func info : ℕ) (call : Call) (u : Unit {0}) → call.id ≡ id → is_of (record { id = id; func = func; info = info }) call ≡ Ok u
    → calls.Begin call.id call.func call.info ≡ calls.Begin id func info
begin_is id func info call u h1 h2 = search (passed, and_parts, eqb-true, arith)

handles_begun_at : (progress : Progress) (id func info : ℕ) (call : Call) (a b : CpuState) → a.current ≡ at_call progress call
    → begun_at progress (record { id = id; func = func; info = info }) call a ≡ Ok b → Handles [] (calls.Begin id func info ∷ []) a b
handles_begun_at progress id func info call a b is e = search (passed, both_made, begin_is, eqb-true, handles_end, append-nil, arith)

sync_class : (class : Class) → (is_async class && true) ≡ false → class ≡ Sync
sync_class class e = search arith

handles_begun_front : (id func info : ℕ) (front : Call) (a b : CpuState) → a.current ≡ None → a.batch ≡ front ∷ rest_of a.batch → front.id ≡ id
    → begun_front (record { id = id; func = func; info = info }) true a front ≡ Ok b → Handles [] (calls.Begin id func info ∷ []) a b
handles_begun_front id func info front a b none is same_id e = search (both_made, failed, sync_class, begin_is, handles_end, append-nil, arith)

handles_begun : (id func info : ℕ) (here : Bool) (elsewhere : Reason) (a b : CpuState)
    → begun (record { id = id; func = func; info = info }) here elsewhere true a ≡ Ok b → Handles [] (calls.Begin id func info ∷ []) a b
handles_begun id func info here elsewhere a b e = search (passed, handles_begun_at, both_made, front_is, handles_begun_front, arith)

handles_entered : (order unlocks : Bool) (actor id func info : ℕ) (place : Place) (s : StateValue) (c : CpuState) → order ≡ false
    → s.setting.without.unlocks ≡ false → entered_by order actor (record { id = id; func = func; info = info }) place s ≡ Ok c
    → Handles [] (calls.Begin id func info ∷ []) (cpu_at s actor) c
handles_entered true unlocks actor id func info place s c told h e = absurd cc
handles_entered false unlocks actor id func info place s c told h e =
    handles_begun id func info (is_batch place actor) (place_reason id place) (cpu_at s actor) c (rw h at e)

-- a function has returned
left_after : (class : Class) (call : Call) → left_by class call ≡ calls.End call.id ∷ left_with (if is_sync class && true then at_call Ended call else None)
left_after Sync call = refl
left_after Async call = refl

handles_ended_at : (progress : Progress) (call : Call) (r : ℕ) (a b : CpuState) → a.current ≡ at_call progress call → ended_at progress call r true a ≡ Ok b
    → Handles [] (calls.End r ∷ []) a b
handles_ended_at progress call r a b is e = search (passed, eqb-true, left_after, append-nil, handles_end, arith)

handles_ended_with : (current : Option Current) (r : ℕ) (a b : CpuState) → a.current ≡ current → ended_with current r true a ≡ Ok b
    → Handles [] (calls.End r ∷ []) a b
handles_ended_with current r a b is e = search (handles_ended_at, arith)

handles_ended : (unlocks : Bool) (r : ℕ) (a b : CpuState) → unlocks ≡ false → ended r (not unlocks) a ≡ Ok b → Handles [] (calls.End r ∷ []) a b
handles_ended true r a b told e = absurd cc
handles_ended false r a b told e = handles_ended_with a.current r a b refl e

-- a queue is taken
handles_taken : (a : CpuState) → not_over a ≡ Ok tt → Handles (taken_now true a.queue) [] a (taken a)
handles_taken a e = let o = over_is a.current a.batch e in record { is = rw (o.0, o.1) refl }

-- Each CPU is at the call that it was at, with its batch as it was.
record KeepsWork (s t : StateValue) : Type 0 where
  cpus_are : length t.cpus ≡ length s.cpus
  work : (cpu : ℕ) → cpu < length s.cpus → SameWork (cpu_at s cpu) (cpu_at t cpu)

keeps_end : (s t u : StateValue) → t ≡ u → KeepsWork s t → KeepsWork s u
keeps_end s t u same k = subst (λ (x : StateValue). KeepsWork s x) same k

keeps_same : (s t : StateValue) → t.cpus ≡ s.cpus → KeepsWork s t
keeps_same s t h1 = search (same_work, arith)

keeps_cpu : (actor : ℕ) (s : StateValue) (c : CpuState) → SameWork (cpu_at s actor) c → KeepsWork s (with_cpu actor s c)
keeps_cpu actor s c h1 = search (length-set, cases_eq, cpu_changed, cpu_kept, same_work, arith)

keeps_then : (s m t : StateValue) → KeepsWork s m → KeepsWork m t → KeepsWork s t
keeps_then s m t p q = search arith

-- a call joins a queue
keeps_joined : (call : Call) (to : ℕ) (s : StateValue) → KeepsWork s (joined call to s)
keeps_joined call to s =
    let m = with_cpu to s (pushed call (cpu_at s to)) in
    let u = with_place call.id (Queue to) m in
    let c = noted to (is_bare (cpu_at s to)) (cpu_at u call.source) in
    keeps_then s m (joined call to s) (keeps_cpu to s (pushed call (cpu_at s to)) (record { current = refl; batch = refl }))
    (keeps_then m u (joined call to s) (keeps_same m u refl) (keeps_cpu call.source u c (record { current = refl; batch = refl })))

keeps_freed : (id : ℕ) (s t : StateValue) → s.setting.without.unlocks ≡ false → freed id s ≡ Ok t → KeepsWork s t
keeps_freed id s t told e = search (freed_told, keeps_end, keeps_same, arith)

keeps_queue : (source id to : ℕ) (class : Class) (func info : ℕ) (s t : StateValue) → s.setting.without.unlocks ≡ false
    → queue_by (record { source = source; id = id; class = class; func = func; info = info }) to s ≡ Ok t → KeepsWork s t
unfolding queue_by
keeps_queue source id to class func info s t told e =
    let call : Call = record { source = source; id = id; class = class; func = func; info = info } in
    let p = passed (is_online s.setting to) (if to == source then Err (reason.IsCaller to) else (freed id s >>= λ m. Ok (joined call to m)))
    (reason.NotOnline to) t e in
    let q = failed (to == source) (freed id s >>= λ m. Ok (joined call to m)) (reason.IsCaller to) t p.1 in
    let m = both_made (freed id s) (λ m. Ok (joined call to m)) t q.1 in
    keeps_then s m.0 t (keeps_freed id s m.0 told m.1.0) (keeps_end m.0 (joined call to m.0) t (cc) (keeps_joined call to m.0))

-- what is no call does
keeps_other : (actor to : ℕ) (s t : StateValue) → other_by actor to s ≡ Ok t → KeepsWork s t
unfolding other_by
keeps_other actor to s t e =
    let c = pushed_other (cpu_at s to) in
    let m = with_cpu to s c in
    let d = owing to (is_bare (cpu_at s to)) (cpu_at m actor) in
    let n = with_cpu actor m d in
    let x = if s.setting.without.order then s else n in
    let p = passed (is_online s.setting to) (if to == actor then Err (reason.IsCaller to) else Ok x) (reason.NotOnline to) t e in
    let q = failed (to == actor) (Ok x) (reason.IsCaller to) t p.1 in
    let first = keeps_cpu to s c (record { current = refl; batch = refl }) in
    let second = keeps_cpu actor m d (record { current = refl; batch = refl }) in
    keeps_end s x t (cc) (either_state (KeepsWork s) s.setting.without.order s n (keeps_same s s refl) (keeps_then s m n first second))

-- an interrupt is sent
keeps_send : (actor to : ℕ) (s t : StateValue) → send_by actor to s ≡ Ok t → KeepsWork s t
unfolding send_by
keeps_send actor to s t e =
    let m = with_cpu to s (interrupted (cpu_at s to)) in
    let d = sent to (cpu_at m actor) in
    let p = passed (is_online s.setting to) (Ok (with_cpu actor m d)) (reason.NotOnline to) t e in
    keeps_end s (with_cpu actor m d) t (cc)
    (keeps_then s m (with_cpu actor m d) (keeps_cpu to s (interrupted (cpu_at s to)) (record { current = refl; batch = refl }))
    (keeps_cpu actor m d (record { current = refl; batch = refl })))

-- and accepted
keeps_accept : (actor : ℕ) (s t : StateValue) → on_cpu actor s (accepted (cpu_at s actor)) ≡ Ok t → KeepsWork s t
keeps_accept actor s t e =
    let m = made_on_cpu actor s t (accepted (cpu_at s actor)) e in
    let same = accepted_same (cpu_at s actor) m.0 m.1.0 in
    keeps_end s (with_cpu actor s m.0) t m.1.1 (keeps_cpu actor s m.0 (record { current = same.current; batch = same.batch }))

keeps_kept : (s t : StateValue) → KeepsCalls s t → KeepsWork s t
keeps_kept s t k = search arith

-- What an event does for the calls of a CPU.
abbrev Acts : ℕ → ℕ × Event → StateValue → StateValue → Type 0
Acts cpu e s t = Handles (taken_now (takes_now cpu e) (cpu_at s cpu).queue) (act_now cpu e) (cpu_at s cpu) (cpu_at t cpu)

acts_end : (cpu : ℕ) (e : ℕ × Event) (s t u : StateValue) → t.cpus ≡ u.cpus → Acts cpu e s t → Acts cpu e s u
acts_end cpu e s t u same h = search arith

-- nothing, where each is at the call that it was at
acts_none : (cpu : ℕ) (e : ℕ × Event) (s t : StateValue) → cpu < length s.cpus → takes_now cpu e ≡ false → act_now cpu e ≡ [] → KeepsWork s t → Acts cpu e s t
acts_none cpu e s t below none nothing k = rw (none, nothing) (handles_same (cpu_at s cpu) (cpu_at t cpu) (k.work cpu below))

-- one thing, by the CPU that acts
by_actor : (cpu actor : ℕ) (x : CallEvent) (s : StateValue) (c : CpuState) → cpu < length s.cpus → Handles [] (x ∷ []) (cpu_at s actor) c → (same : Bool)
    → (actor == cpu) ≡ same → Handles [] (only_if same x) (cpu_at s cpu) (cpu_at (with_cpu actor s c) cpu)
by_actor cpu actor x s c below h true e =
    let same : actor ≡ cpu = eqb-true actor cpu e in
    subst (λ (o : ℕ). Handles [] (x ∷ []) (cpu_at s o) c → Handles [] (x ∷ []) (cpu_at s cpu) (cpu_at (with_cpu o s c) cpu)) (sym same)
    (λ h. rw (cpu_changed cpu s c below) h) h
by_actor cpu actor x s c below h false e = rw (cpu_kept cpu actor s c (λ x. eqb-false actor cpu e (sym x))) (handles_same (cpu_at s cpu) (cpu_at s cpu)
    (same_work (cpu_at s cpu)))

unlock_acts : (cpu actor id : ℕ) (s t : StateValue) → cpu < length s.cpus → unlock_by actor id s ≡ Ok t → Acts cpu (actor, event.Call (calls.Unlock id)) s t
unfolding unlock_by
unlock_acts cpu actor id s t below e =
    let a = cpu_at s actor in
    let here = is_batch (place_at s id) actor in
    let elsewhere = place_reason id (place_at s id) in
    let made = unlocked id here elsewhere a in
    let n = both_made (on_cpu actor s made) (λ x. Ok (with_place id Free x)) t e in
    let m = made_on_cpu actor s n.0 made n.1.0 in
    let same : with_place id Free n.0 ≡ t = cc in
    let cpus : (with_cpu actor s m.0).cpus ≡ t.cpus = ap (λ x. x.cpus) m.1.1 ∙ ap (λ x. x.cpus) same in
    acts_end cpu (actor, event.Call (calls.Unlock id)) s (with_cpu actor s m.0) t cpus
    (by_actor cpu actor (calls.Unlock id) s m.0 below (handles_unlocked id here elsewhere a m.0 m.1.0) (actor == cpu) refl)

placed_cpus : (unless : Bool) (actor id : ℕ) (s : StateValue) → let t = placed_unless unless actor id s in t.cpus ≡ s.cpus
placed_cpus unless actor id s = search arith

begin_acts : (cpu actor id func info : ℕ) (s t : StateValue) → s.setting.without.order ≡ false → s.setting.without.unlocks ≡ false → cpu < length s.cpus
    → begin_by actor (record { id = id; func = func; info = info }) s ≡ Ok t → Acts cpu (actor, event.Call (calls.Begin id func info)) s t
unfolding begin_by
begin_acts cpu actor id func info s t order unlocks below e =
    let place = place_at s id in
    let unless = is_some (cpu_at s actor).current in
    let made = entered_by s.setting.without.order actor (record { id = id; func = func; info = info }) place s in
    let n = both_made (on_cpu actor s made) (λ x. Ok (placed_unless unless actor id x)) t e in
    let m = made_on_cpu actor s n.0 made n.1.0 in
    let same : placed_unless unless actor id n.0 ≡ t = cc in
    let cpus : (with_cpu actor s m.0).cpus ≡ t.cpus = ap (λ x. x.cpus) m.1.1 ∙ sym (placed_cpus unless actor id n.0) ∙ ap (λ x. x.cpus) same in
    let h = handles_entered s.setting.without.order s.setting.without.unlocks actor id func info place s m.0 order unlocks m.1.0 in
    acts_end cpu (actor, event.Call (calls.Begin id func info)) s (with_cpu actor s m.0) t cpus
    (by_actor cpu actor (calls.Begin id func info) s m.0 below h (actor == cpu) refl)

freed_cpus : (test : Bool) (id : ℕ) (s : StateValue) → let t = freed_if test id s in t.cpus ≡ s.cpus
freed_cpus test id s = search arith

end_acts : (cpu actor id : ℕ) (s t : StateValue) → s.setting.without.unlocks ≡ false → cpu < length s.cpus → end_by actor id s ≡ Ok t
    → Acts cpu (actor, event.Call (calls.End id)) s t
unfolding end_by
end_acts cpu actor id s t unlocks below e =
    let a = cpu_at s actor in
    let made = ended id (not s.setting.without.unlocks) a in
    let test = runs_locked a && s.setting.without.unlocks in
    let n = both_made (on_cpu actor s made) (λ x. Ok (freed_if test id x)) t e in
    let m = made_on_cpu actor s n.0 made n.1.0 in
    let same : freed_if test id n.0 ≡ t = cc in
    let cpus : (with_cpu actor s m.0).cpus ≡ t.cpus = ap (λ x. x.cpus) m.1.1 ∙ sym (freed_cpus test id n.0) ∙ ap (λ x. x.cpus) same in
    acts_end cpu (actor, event.Call (calls.End id)) s (with_cpu actor s m.0) t cpus
    (by_actor cpu actor (calls.End id) s m.0 below (handles_ended s.setting.without.unlocks id a m.0 unlocks m.1.0) (actor == cpu) refl)

take_handles : (cpu actor : ℕ) (s : StateValue) → cpu < length s.cpus → not_over (cpu_at s actor) ≡ Ok tt → (same : Bool) → (actor == cpu) ≡ same
    → Handles (taken_now same (cpu_at s cpu).queue) [] (cpu_at s cpu) (cpu_at (with_cpu actor s (taken (cpu_at s actor))) cpu)
take_handles cpu actor s below over true e =
    let same : actor ≡ cpu = eqb-true actor cpu e in
    subst (λ (o : ℕ). not_over (cpu_at s o) ≡ Ok tt
    → Handles (taken_now true (cpu_at s cpu).queue) [] (cpu_at s cpu) (cpu_at (with_cpu o s (taken (cpu_at s o))) cpu)) (sym same)
    (λ over. rw (cpu_changed cpu s (taken (cpu_at s cpu)) below) (handles_taken (cpu_at s cpu) over)) over
take_handles cpu actor s below over false e =
    rw (cpu_kept cpu actor s (taken (cpu_at s actor)) (λ x. eqb-false actor cpu e (sym x)))
    (handles_same (cpu_at s cpu) (cpu_at s cpu) (same_work (cpu_at s cpu)))

take_acts : (cpu actor : ℕ) (s t : StateValue) → cpu < length s.cpus → take_by actor s ≡ Ok t → Acts cpu (actor, event.Call calls.Take) s t
unfolding take_by
take_acts cpu actor s t below e =
    let x = with_cpu actor (moved actor s) (taken (cpu_at s actor)) in
    let m = both_made (may_take (not s.setting.without.interrupts) (cpu_at s actor)) (λ u. Ok x) t e in
    let same : x ≡ t = cc in
    let over = may_take_over (not s.setting.without.interrupts) (cpu_at s actor) m.0 m.1.0 in
    acts_end cpu (actor, event.Call calls.Take) s (with_cpu actor s (taken (cpu_at s actor))) t (ap (λ y. y.cpus) same)
    (take_handles cpu actor s below over (actor == cpu) refl)

call_acts_now : (cpu actor : ℕ) (e : CallEvent) (s t : StateValue) → s.setting.without.order ≡ false → s.setting.without.unlocks ≡ false
    → cpu < length s.cpus → goes actor (event.Call e) s ≡ Ok t → Acts cpu (actor, event.Call e) s t
unfolding call_goes
call_acts_now cpu actor (calls.Queue id to class func info) s t order unlocks below e =
    acts_none cpu (actor, event.Call (calls.Queue id to class func info)) s t below refl refl (keeps_queue actor id to class func info s t unlocks e)
call_acts_now cpu actor (calls.Free id) s t order unlocks below e =
    acts_none cpu (actor, event.Call (calls.Free id)) s t below refl refl (keeps_freed id s t unlocks e)
call_acts_now cpu actor (calls.QueueOther to node) s t order unlocks below e =
    acts_none cpu (actor, event.Call (calls.QueueOther to node)) s t below refl refl (keeps_other actor to s t e)
call_acts_now cpu actor (calls.Send to) s t order unlocks below e =
    acts_none cpu (actor, event.Call (calls.Send to)) s t below refl refl (keeps_send actor to s t e)
call_acts_now cpu actor calls.Accept s t order unlocks below e =
    acts_none cpu (actor, event.Call calls.Accept) s t below refl refl (keeps_accept actor s t e)
call_acts_now cpu actor calls.Idle s t order unlocks below e =
    let m = both_made (idle_by actor s) (λ u. Ok s) t e in
    acts_none cpu (actor, event.Call calls.Idle) s t below refl refl (keeps_end s s t (cc) (keeps_same s s refl))
call_acts_now cpu actor calls.Take s t order unlocks below e = take_acts cpu actor s t below e
call_acts_now cpu actor (calls.Unlock id) s t order unlocks below e = unlock_acts cpu actor id s t below e
call_acts_now cpu actor (calls.Begin id func info) s t order unlocks below e = begin_acts cpu actor id func info s t order unlocks below e
call_acts_now cpu actor (calls.End id) s t order unlocks below e = end_acts cpu actor id s t unlocks below e

event_acts : (cpu actor : ℕ) (e : Event) (s t : StateValue) → s.setting.without.order ≡ false → s.setting.without.unlocks ≡ false → cpu < length s.cpus
    → goes actor e s ≡ Ok t → Acts cpu (actor, e) s t
event_acts cpu actor (event.Call e) s t order unlocks below g = call_acts_now cpu actor e s t order unlocks below g
event_acts cpu actor (event.Stop e) s t order unlocks below g =
    acts_none cpu (actor, event.Stop e) s t below refl refl (keeps_kept s t (stop_keeps_calls actor e s t g))
event_acts cpu actor (event.Label e) s t order unlocks below g =
    acts_none cpu (actor, event.Label e) s t below refl refl (keeps_kept s t (label_keeps_calls actor e s t (low_event actor _ t g).1))

all_append : (xs ys : List Call) → acts_of_all (xs ++ ys) ≡ acts_of_all xs ++ acts_of_all ys
all_append [] ys = refl
all_append (x ∷ xs) ys = ap (λ zs. acts_of x ++ zs) (all_append xs ys) ∙ sym (append_assoc (acts_of x) (acts_of_all xs) (acts_of_all ys))

-- and what a run does
acts_run : (cpu : ℕ) (es : List (ℕ × Event)) (s t : StateValue) → s.setting.without.order ≡ false → s.setting.without.unlocks ≡ false → cpu < length s.cpus
    → RunsOf s es t → left (cpu_at s cpu) ++ acts_of_all (taken_from cpu (cpu_at s cpu).queue es) ≡ acts cpu es ++ left (cpu_at t cpu)
unfolding taken_from acts
acts_run cpu [] s t order unlocks below run = append-nil (left (cpu_at s cpu)) ∙ ap (λ x. left (cpu_at x cpu)) (sym run)
acts_run cpu (e ∷ es) s t order unlocks below (m, (g, run)) =
    let a = cpu_at s cpu in
    let b = cpu_at m cpu in
    let now = taken_now (takes_now cpu e) a.queue in
    let shown = (event_shows false cpu e.0 e.1 s m order below g).goes in
    let q : b.queue ≡ queue_next (takes_now cpu e) a.queue (queued_now cpu e) = shown.shows.queue_is refl in
    let set : m.setting ≡ s.setting = shown.setting_is in
    let rest = acts_run cpu es m t (ap (λ u. u.without.order) set ∙ order) (ap (λ u. u.without.unlocks) set ∙ unlocks) (rw shown.cpus_are below) run in
    rw (← q, all_append now (taken_from cpu b.queue es))
    (joined_steps (left a) (acts_of_all now) (act_now cpu e) (left b) (acts_of_all (taken_from cpu b.queue es)) (acts cpu es) (left (cpu_at t cpu))
    (event_acts cpu e.0 e.1 s m order unlocks below g).is rest)

pub call_acts : OfEachTrace CallActs
call_acts u words es t run cpu low order unlocks =
    let first = opening u words in
    let fresh = fresh_at u words cpu in
    let set = setting_at_first u words in
    let r = acts_run cpu es first t (ap (λ v. v.without.order) set ∙ order) (ap (λ v. v.without.unlocks) set ∙ unlocks) (rw (cpus_at_first u words) low) run in
    sym r ∙ ap (λ c. left c ++ acts_of_all (taken_from cpu c.queue es)) fresh

-- What a CPU runs, has waiting and has left to do, where no call that it has taken is left.
record RestsAt (c : CpuState) : Type 0 where
  runs : running c ≡ []
  waits : waiting c ≡ []
  none_left : left c ≡ []

rests_at : (c : CpuState) → not_over c ≡ Ok tt → RestsAt c
rests_at c e = let o = over_is c.current c.batch e in record { runs = rw o.0 refl; waits = rw (o.0, o.1) refl; none_left = rw (o.0, o.1) refl }

done_at : (u : Setting) (words : LabelWords) (es : List (ℕ × Event)) (s : StateValue) (cpu : ℕ) → IsTrace u words es s → cpu < 512
    → not_over (cpu_at s cpu) ≡ Ok tt → IsDone u cpu es
done_at u words es s cpu run low over =
    let c = cpu_at s cpu in
    let r = rests_at c over in
    let started : map record_of (begins cpu es) ≡ ends cpu es =
    end_once u words es s run cpu low ∙ ap (λ xs. ends cpu es ++ map id_of xs) r.runs ∙ append-nil (ends cpu es) in
    record {
      begun = started;
      taken_ended = λ order.
          let all : map begin_of (taken_of cpu es) ≡ begins cpu es = (begin_in_order u words es s run cpu low).begun order
          ∙ ap (λ xs. begins cpu es ++ map begin_of xs) r.waits ∙ append-nil (begins cpu es) in
          sym (records_of (taken_of cpu es)) ∙ ap (λ xs. map record_of xs) all ∙ started;
      all_acts = λ order unlocks.
          sym (append-nil (acts cpu es)) ∙ ap (λ xs. acts cpu es ++ xs) (sym r.none_left) ∙ call_acts u words es s run cpu low order unlocks;
    }

nothing_with : (over : Result (Unit {0}) Reason) (accepted : Bool) → quiet_with over accepted ≡ Ok tt → (over ≡ Ok tt) × (accepted ≡ false)
nothing_with over accepted e = search arith

nothing_at : (u : Setting) (words : LabelWords) (es : List (ℕ × Event)) (s : StateValue) (cpu : ℕ) → IsTrace u words es s → cpu < 512
    → handles_nothing (cpu_at s cpu) ≡ Ok tt → HandlesNothing u cpu es
nothing_at u words es s cpu run low e =
    let n = nothing_with (not_over (cpu_at s cpu)) (cpu_at s cpu).accepted e in
    record { done = done_at u words es s cpu run low n.0; none_accepted = sym (interrupts_are_told u words es s run cpu low).accepted ∙ n.1 }

-- a CPU that accepts an interrupt, finds none, takes its queue, or turns its interrupts off
accepts_at : (a b : CpuState) → accepted a ≡ Ok b → handles_nothing a ≡ Ok tt
accepts_at a b e = search (passed, both_made, arith)

idle_at : (a : CpuState) (u : Unit {0}) → as_idle a ≡ Ok u → handles_nothing a ≡ Ok tt
idle_at a u e = search (passed, both_made, arith)

take_at : (cpu : ℕ) (s t : StateValue) → take_by cpu s ≡ Ok t → not_over (cpu_at s cpu) ≡ Ok tt
unfolding take_by
take_at cpu s t e = search (both_made, may_take_over, arith)

off_at : (cpu : ℕ) (s t : StateValue) → off_by cpu s ≡ Ok t → handles_nothing (cpu_at s cpu) ≡ Ok tt
unfolding off_by
off_at cpu s t e = search (both_made, passed, arith)

disabled_at : (left_out : Bool) (cpu : ℕ) (s t : StateValue) → left_out ≡ true → (acks_disabled left_out cpu s >>= λ v. Ok s) ≡ Ok t
    → handles_nothing (cpu_at s cpu) ≡ Ok tt
disabled_at left_out cpu s t h1 e = search (both_made, arith)

ack_at : (cpu : ℕ) (s t : StateValue) → s.setting.without.switches ≡ true → ack_by cpu DISABLE_IRQ s ≡ Ok t → handles_nothing (cpu_at s cpu) ≡ Ok tt
unfolding ack_by
ack_at cpu s t left_out e = search (both_made, disabled_at, arith)

finds_done : (u : Setting) (words : LabelWords) (cpu : ℕ) (e : Event) (es : List (ℕ × Event)) (s t : StateValue) → IsTrace u words es s → cpu < 512
    → goes cpu e s ≡ Ok t → FindsDone u cpu e es
unfolding call_goes stop_goes inside_goes
finds_done u words cpu (event.Call calls.Accept) es s t run low g =
    let m = made_on_cpu cpu s t (accepted (cpu_at s cpu)) g in nothing_at u words es s cpu run low (accepts_at (cpu_at s cpu) m.0 m.1.0)
finds_done u words cpu (event.Call calls.Idle) es s t run low g =
    let m = both_made (idle_by cpu s) (λ u. Ok s) t g in nothing_at u words es s cpu run low (idle_at (cpu_at s cpu) m.0 m.1.0)
finds_done u words cpu (event.Call calls.Take) es s t run low g = done_at u words es s cpu run low (take_at cpu s t g)
finds_done u words cpu (event.Stop stops.Off) es s t run low g = nothing_at u words es s cpu run low (off_at cpu s t (low_event cpu _ t g).1)
finds_done u words cpu (event.Stop (stops.Ack phase)) es s t run low g = λ left_out same.
    let set : s.setting ≡ u = setting_runs es (opening u words) s run ∙ setting_at_first u words in
    nothing_at u words es s cpu run low (ack_at cpu s t (ap (λ v. v.without.switches) set ∙ left_out) (rw same at (low_event cpu _ t g).1))
finds_done u words cpu _ es s t run low g = tt

pub calls_are_done : CallsAreDone
calls_are_done u words es t cpu e run low =
    let m = runs_last es (cpu, e) (opening u words) t run in
    finds_done u words cpu e es m.0 t m.1.0 low m.1.1
