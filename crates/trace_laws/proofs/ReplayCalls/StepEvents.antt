-- The events of a step, and the state to which they lead.
use Rattle.trace_laws.proofs.Names.{Async, Batch, Call, CpuState, Ended, Event, Free, List, None, Ok, Queue, Run, Some, StateValue, Sync, Unlocked, []}
use Rattle.trace_laws.proofs.Names.{ap, arith, at_call, call_goes, cond, counted, cpu_at, eq-eqb, false, goes, has, if◌then◌else◌, interrupted, is_bare}
use Rattle.trace_laws.proofs.Names.{left_batch, map, map-append, moved, ne_eqb, noted, place_at, pushed, refl, sent, subst, taken, true, with_cpu}
use Rattle.trace_laws.proofs.Names.{with_place, ℕ, ◌%◌, ◌++◌, ◌<◌, ◌==◌, ◌∙◌, ◌∷◌, ◌≡◌, ◌≢◌}
use Rattle.trace_laws.proofs.ReplayNames.{AsyncCall, CallState, CallsOfCpu, CountedCall, Follows, Holding, MachineCall, Nothing, RecPlace, Running, Runs}
use Rattle.trace_laws.proofs.ReplayNames.{RunsTo, StepEvents, SyncCall, accepts, appended, calls_in, calls_of, confirms, cpus, current_of, events_in}
use Rattle.trace_laws.proofs.ReplayNames.{has_record, id_of, place_of, place_taken, put, put_all, put_other, put_same, records, told_call}
use Rattle.smp_words.specs.Size.{owner}
use Rattle.smp_call_steps.specs.Calls.{begins_async, begins_sync, ends_async, ends_sync, sends, takes}
use Rattle.smp_call_steps.specs.declared.place.RecPlace.TheVariants as machine
use Rattle.smp_call_steps.specs.{Places.IsThere, Places.Placed, Words.FlagsShow}
use Rattle.trace_model.specs.declared.event.CallEvent.TheVariants as calls
use Rattle.trace_model.specs.declared.event.Event.TheVariants as event
use Rattle.trace_events.specs.declared.step_events.StepEvents.TheVariants as told
use Rattle.trace_laws.proofs.ReplayCalls.CallEvents.{IsNext, Rests, accepts as accepts_interrupt, begins_async as enters_unlocked, begins_sync as enters_front}
use Rattle.trace_laws.proofs.ReplayCalls.CallEvents.{ends_call, idles, queues_call, sees_free, sends_to, takes_queue, unlocks_async, unlocks_sync}
use Rattle.trace_laws.proofs.ReplayCalls.ChangedStates.{FollowsBut, LeavesStops, but_placed, but_set, cpu_here, follows_but, follows_placed, follows_same}
use Rattle.trace_laws.proofs.ReplayCalls.ChangedStates.{follows_set, leaves_all, leaves_cpu, leaves_place, leaves_then}
use Rattle.trace_laws.proofs.ReplayCalls.TakenQueues.{length-placed, order_told, placed_at, record_there, taken_place}

-- These events lead to a state that agrees with the calls, and leave all else as it was.
pub record Reaches (online : ℕ) (b : CallState) (s : StateValue) (es : List (ℕ × Event)) : Type 0 where
  pub t : StateValue
  pub runs : RunsTo s es t
  pub follows : Follows online b t
  pub leaves : LeavesStops s t

-- the events of a CPU that a step tells
abbrev pub by : ℕ → StepEvents → List (ℕ × Event)
by me told = map (λ e. (me, e)) (events_in told)

-- the number of a record is told as it is
pub id_told : (id : ℕ) → id < records → id_of id ≡ id
id_told id l = grind arith

module _ (online : ℕ) (a : CallState) (s : StateValue) (f : Follows online a s) where
  -- nothing is told, where the calls are the same
  pub quiet : (b : CallState) → ((j : ℕ) → calls_of b j ≡ calls_of a j) → ((id : ℕ) → id < records → place_of (b.place id) ≡ place_of (a.place id))
      → Reaches online b s []
  quiet b same places = record { t = s; runs = refl; follows = follows_same online a b s same places f; leaves = leaves_all s }

  pub still : Reaches online a s []
  still = record { t = s; runs = refl; follows = f; leaves = leaves_all s }

  module _ (me : ℕ) (below : me < cpus) where
    -- a record's flags are loaded: it is seen free where they are even
    pub loads : (id n : ℕ) (p : RecPlace) → a.place id ≡ p → FlagsShow p n → (a.place id ≡ machine.Free → id < records)
        → Reaches online (if n % 2 == 1 then a else confirms a me id) s
        (by me (if n % 2 == 0 then told.One (event.Call (calls.Free (id_of id))) else told.Nothing))
    unfolding call_goes
    loads id n machine.Free e flags l =
        let free : place_at s id ≡ Free = f.places id (l e) ∙ ap place_of e in
        rw (flags, id_told id (l e)) (record {
          t = s;
          runs = (s, (sees_free s me f.whole id free, refl));
          follows = follows_same online a (confirms a me id) s (λ j. refl) (λ j b. refl) f;
          leaves = leaves_all s;
        })
    loads id n _ e flags l = rw flags still

    -- a CPU's part of the calls
    mine : calls_in (cpu_at s me) ≡ calls_of a me
    mine = f.calls me

    current_is : (r : Running) → a.running me ≡ r → (cpu_at s me).current ≡ current_of r
    current_is r e = ap (λ (c : CallsOfCpu). c.current) mine ∙ ap current_of e

    batch_is : (xs : List MachineCall) → a.batch me ≡ xs → (cpu_at s me).batch ≡ map told_call xs
    batch_is xs e = ap (λ (c : CallsOfCpu). c.batch) mine ∙ ap (map told_call) e

    -- a CPU is set, and nothing else
    sets : (b : CallState) (c : CpuState) (e : Event) → goes me e s ≡ Ok (with_cpu me s c) → calls_in c ≡ calls_of b me
        → ((j : ℕ) → j ≢ me → calls_of b j ≡ calls_of a j) → ((id : ℕ) → id < records → place_of (b.place id) ≡ place_of (a.place id))
        → c.irq ≡ (cpu_at s me).irq → c.inside ≡ (cpu_at s me).inside → Reaches online b s ((me, e) ∷ [])
    sets b c e made here others places irq inside = record {
      t = with_cpu me s c;
      runs = (with_cpu me s c, (made, refl));
      follows = follows_set online a b s me c below (follows_but online me a s f) here others places;
      leaves = leaves_cpu s me c f.cpus_are below irq inside;
    }

    -- an interrupt is sent
    pub sends_told : (to : ℕ) → to < cpus → has online to ≡ true → Reaches online (sends a me to) s ((me, event.Call (calls.Send to)) ∷ [])
    unfolding call_goes
    sends_told to l on =
        let b = sends a me to in
        let c = interrupted (cpu_at s to) in
        let t = with_cpu to s c in
        let d = sent to (cpu_at t me) in
        let here : calls_in c ≡ calls_of b to = rw (eq-eqb to to refl) (ap (λ (x : CallsOfCpu). record x { pending = true }) (f.calls to)) in
        let g : Follows online b t = follows_set online a b s to c l (follows_but online to a s f) here (λ j ne. rw (ne_eqb j to ne) refl) (λ id m. refl) in
        record {
          t = with_cpu me t d;
          runs = (with_cpu me t d, (sends_to s me f.whole to l (rw f.online_is on), refl));
          follows = follows_set online b b t me d below (follows_but online me b t g) (g.calls me) (λ j ne. refl) (λ id m. refl);
          leaves = leaves_then s t (with_cpu me t d) (leaves_cpu s to c f.cpus_are l refl refl) (leaves_cpu t me d g.cpus_are below refl refl);
        }

    -- what holds of a CPU inside `handle`, that has nothing to handle
    pub rests_told : a.running me ≡ Nothing → a.batch me ≡ [] → a.accepted me ≡ false → (cpu_at s me).irq ≡ true → Rests (cpu_at s me)
    rests_told r b x on = record { current = current_is Nothing r; batch = batch_is [] b; accepted = ap (λ (c : CallsOfCpu). c.accepted) mine ∙ x; irq = on }

    pub accepts_told : Rests (cpu_at s me) → a.pending me ≡ true → Reaches online (accepts a me) s ((me, event.Call calls.Accept) ∷ [])
    unfolding call_goes
    accepts_told k e = sets (accepts a me) (record (cpu_at s me) { pending = false; accepted = true }) (event.Call calls.Accept)
        (accepts_interrupt s me f.whole k (ap (λ (c : CallsOfCpu). c.pending) mine ∙ e))
        (rw (eq-eqb me me refl, e) (ap (λ (x : CallsOfCpu). record x { pending = false; accepted = true }) mine))
        (λ j ne. rw (ne_eqb j me ne) refl) (λ id l. refl) refl refl

    pub idles_told : Rests (cpu_at s me) → a.pending me ≡ false → Reaches online (accepts a me) s ((me, event.Call calls.Idle) ∷ [])
    unfolding call_goes
    idles_told k e =
        record {
          t = s;
          runs = (s, (rw (idles s me f.whole k (ap (λ (c : CallsOfCpu). c.pending) mine ∙ e)) refl, refl));
          follows = search (follows_same, put_all, put_same, ne_eqb, arith);
          leaves = leaves_all s;
        }

    -- a SYNC call begins, the front of the batch
    pub begins_sync_told : (call : MachineCall) (rest : List MachineCall) → a.batch me ≡ call ∷ rest → a.running me ≡ Nothing → call.class ≡ Sync
        → a.place call.id ≡ machine.Batch me → call.id < records → (cpu_at s me).irq ≡ true
        → Reaches online (begins_sync a me (call ∷ rest)) s ((me, event.Call (calls.Begin call.id call.func call.info)) ∷ [])
    unfolding call_goes
    begins_sync_told call rest front idle is at l on =
        let x = told_call call in
        let c = left_batch Runs x (cpu_at s me) in
        let t = with_cpu me s c in
        let b : CallState = record a { batch = put a.batch me rest; running = put a.running me (SyncCall call) } in
        let next : IsNext (cpu_at s me) x (map told_call rest) = record {
          current = current_is Nothing idle;
          batch = batch_is
              (call ∷ rest) front;
          irq = on;
        } in
        let batch : (cpu_at s me).batch ≡ x ∷ map told_call rest = next.batch in
        let here : calls_in c ≡ calls_of b me = rw (eq-eqb me me refl, batch) (ap (λ
        (y : CallsOfCpu). record y { batch = map told_call rest; current = at_call Runs x }) mine) in
        let g : Follows online b t = follows_set online a b s me c below (follows_but online me a s f) here (λ j ne. rw (ne_eqb j me ne) refl)
        (λ id m. refl) in
        record {
          t = with_place call.id (Run me) t;
          runs = (
            with_place call.id (Run me) t,
            (
              enters_front s me f.whole x (map told_call rest) next is (f.places call.id l
                  ∙ ap place_of at) f.cpus_are below,
              refl,
            ),
          );
          follows = follows_placed online b (begins_sync a me (call ∷ rest)) t call.id (Run me) l (rw (eq-eqb call.id call.id refl) refl)
              (λ j ne. put_other a.place call.id (machine.Running me) j ne) (λ j. refl) g;
          leaves = leaves_then s t (with_place call.id (Run me) t) (leaves_cpu s me c f.cpus_are below refl refl) (leaves_place t call.id (Run me));
        }

    -- the function of a SYNC call has returned, and that of an ASYNC call
    pub ends_sync_told : (call : MachineCall) → a.running me ≡ SyncCall call → call.class ≡ Sync
        → Reaches online (record a { running = put a.running me (CountedCall call) }) s ((me, event.Call (calls.End call.id)) ∷ [])
    unfolding call_goes
    ends_sync_told call was is = sets (record a { running = put a.running me (CountedCall call) })
        (record (cpu_at s me) { ran = counted (owner call.id) (cpu_at s me).ran; current = at_call Ended (told_call call) }) (event.Call (calls.End call.id))
        (ends_call s me f.whole (told_call call) Sync (current_is (SyncCall call) was) is)
        (rw (eq-eqb me me refl) (ap (λ (y : CallsOfCpu). record y { current = at_call Ended (told_call call) }) mine))
        (λ j ne. rw (ne_eqb j me ne) refl) (λ id l. refl) refl refl

    pub ends_async_told : (call : MachineCall) → a.running me ≡ AsyncCall call → call.class ≡ Async
        → Reaches online (ends_async a me call) s ((me, event.Call (calls.End call.id)) ∷ [])
    unfolding call_goes
    ends_async_told call was is = sets (ends_async a me call)
        (record (cpu_at s me) { ran = counted (owner call.id) (cpu_at s me).ran; current = None }) (event.Call (calls.End call.id))
        (ends_call s me f.whole (told_call call) Async (current_is (AsyncCall call) was) is)
        (rw (eq-eqb me me refl) (ap (λ (y : CallsOfCpu). record y { current = None }) mine))
        (λ j ne. rw (ne_eqb j me ne) refl) (λ id l. refl) refl refl

    -- the record of a SYNC call is unlocked
    pub unlocks_told : (call : MachineCall) → a.running me ≡ CountedCall call → call.id < records
        → Reaches online (ends_sync a me call) s ((me, event.Call (calls.Unlock call.id)) ∷ [])
    unfolding call_goes
    unlocks_told call was l =
        let c = record (cpu_at s me) { current = None } in
        let t = with_cpu me s c in
        let b : CallState = record a { running = put a.running me Nothing; ran = put a.ran me (a.ran me ++ call ∷ []) } in
        let here : calls_in c ≡ calls_of b me = rw (eq-eqb me me refl) (ap (λ (y : CallsOfCpu). record y { current = None }) mine) in
        let g : Follows online b t = follows_set online a b s me c below (follows_but online me a s f) here (λ j ne. rw (ne_eqb j me ne) refl)
        (λ id m. refl) in
        record {
          t = with_place call.id Free t;
          runs = (with_place call.id Free t, (unlocks_sync s me f.whole (told_call call) (current_is (CountedCall call) was), refl));
          follows = follows_placed online b (ends_sync a me call) t call.id Free l (rw (eq-eqb call.id call.id refl) refl)
              (λ j ne. put_other a.place call.id machine.Free j ne) (λ j. refl) g;
          leaves = leaves_then s t (with_place call.id Free t) (leaves_cpu s me c f.cpus_are below refl refl) (leaves_place t call.id Free);
        }

    -- an ASYNC call is unlocked, and begins
    pub begins_async_told : (call : MachineCall) (rest : List MachineCall) → a.batch me ≡ call ∷ rest → a.running me ≡ Nothing → call.class ≡ Async
        → a.place call.id ≡ machine.Batch me → call.id < records → (cpu_at s me).irq ≡ true
        → Reaches online (begins_async a me (call ∷ rest)) s
        ((me, event.Call (calls.Unlock call.id)) ∷ ((me, event.Call (calls.Begin call.id call.func call.info)) ∷ []))
    unfolding call_goes
    begins_async_told call rest front idle is at l on =
        let x = told_call call in
        let next : IsNext (cpu_at s me) x (map told_call rest) = record {
          current = current_is Nothing idle;
          batch = batch_is
              (call ∷ rest) front;
          irq = on;
        } in
        let batch : (cpu_at s me).batch ≡ x ∷ map told_call rest = next.batch in
        let c = left_batch Unlocked x (cpu_at s me) in
        let m = with_cpu me s c in
        let n = with_place call.id Free m in
        let mid : cpu_at n me ≡ c = cpu_here s me c f.cpus_are below in
        let d = record (cpu_at n me) { current = at_call Runs x } in
        let b = begins_async a me (call ∷ rest) in
        let placed : CallState = record a { place = put a.place call.id machine.Free } in
        let g = but_placed online a placed m call.id Free l (rw (eq-eqb call.id call.id refl) refl)
        (λ j ne. put_other a.place call.id machine.Free j ne) me (λ j ne. refl)
        (but_set online a a s me c (follows_but online me a s f)) in
        let here : calls_in d ≡ calls_of b me = rw (mid, eq-eqb me me refl, batch) (ap (λ
        (y : CallsOfCpu). record y { batch = map told_call rest; current = at_call Runs x }) mine) in
        record {
          t = with_cpu me n d;
          runs = (
            n,
            (
              unlocks_async s me f.whole x (map told_call rest) next is (f.places call.id l ∙ ap place_of at),
              (with_cpu me n d, (enters_unlocked n me f.whole x (ap (λ (y : CpuState). y.irq) mid ∙ on) (ap (λ (y : CpuState). y.current) mid), refl)),
            ),
          );
          follows = follows_set online placed b n me d below g here (λ j ne. rw (ne_eqb j me ne) refl) (λ id m. refl);
          leaves = leaves_then s n (with_cpu me n d)
              (leaves_then s m n (leaves_cpu s me c f.cpus_are below refl refl) (leaves_place m call.id Free))
              (leaves_cpu n me d g.cpus_are below refl refl);
        }

    -- the records of the queue are in the batch
    places_moved : Placed a.place a.held a.queue a.batch a.running a.confirmed → (id : ℕ) → id < records
        → place_at (moved me s) id ≡ place_of (place_taken me (a.place id))
    places_moved law id l =
        let q : (cpu_at s me).queue ≡ map told_call (a.queue me) = ap (λ (c : CallsOfCpu). c.queue) mine in
        rw q (placed_at (Batch me) (a.queue me) s.places id (rw f.places_are (omega arith))
        ∙ (ap (λ p. cond (has_record id (a.queue me)) (Batch me) p) (f.places id l)
        ∙ taken_place me id (a.place id) (a.queue me) (has_record id (a.queue me)) refl (record_there a.place (machine.Queued me) id (a.queue me)
        (law.queued me))
        (λ e. subst (λ (p : RecPlace). IsThere a.held a.queue a.batch a.running id p) e (law.is_there id))))

    -- the whole queue is taken
    pub takes_told : Placed a.place a.held a.queue a.batch a.running a.confirmed → a.accepted me ≡ true → a.batch me ≡ [] → a.running me ≡ Nothing
        → (cpu_at s me).irq ≡ true
        → Reaches online (takes a me) s ((me, event.Call calls.Take) ∷ [])
    takes_told law x empty idle on =
        let q : (cpu_at s me).queue ≡ map told_call (a.queue me) = ap (λ (c : CallsOfCpu). c.queue) mine in
        let m = moved me s in
        let c = taken (cpu_at s me) in
        let b = takes a me in
        let here : calls_in c ≡ calls_of b me =
        search (q, eq-eqb, order_told, mine, arith) in
        let g : FollowsBut online me b m = search (length-placed, ne_eqb, places_moved, arith) in
        let left : LeavesStops s m = record { setting = refl; gate = refl; stops = refl; words = refl; irq = λ cpu. refl; inside = λ cpu. refl } in
        record {
          t = with_cpu me m c;
          runs = (
            with_cpu me m c,
            (
              takes_queue s me f.whole on (current_is Nothing idle) (batch_is [] empty) (ap (λ (c : CallsOfCpu). c.accepted) mine ∙ x),
              refl,
            ),
          );
          follows = follows_set online b b m me c below g here (λ j ne. refl) (λ id l. refl);
          leaves = leaves_then s m (with_cpu me m c) left (leaves_cpu m me c f.cpus_are below refl refl);
        }

    -- a call joins a queue
    pub queues_told : (h : Holding) (to : ℕ) → owner h.call.id ≡ me → h.call.id < records → to < cpus → has online to ≡ true → to ≢ me
        → place_of (a.place h.call.id) ≡ Free
        → Reaches online (appended a me to (Some h)) s ((me, event.Call (calls.Queue h.call.id to h.call.class h.call.func h.call.info)) ∷ [])
    queues_told h to owned l m on ne free =
        let x : Call = record { source = me; id = h.call.id; class = h.call.class; func = h.call.func; info = h.call.info } in
        let same : told_call h.call ≡ x = rw owned refl in
        let c = pushed x (cpu_at s to) in
        let t = with_cpu to s c in
        let d = noted to (is_bare (cpu_at s to)) (cpu_at t me) in
        let u = with_cpu me t d in
        let v = with_place h.call.id (Queue to) u in
        let b : CallState = record a { queue = put a.queue to (a.queue to ++ h.call ∷ []) } in
        let his : calls_in (cpu_at s to) ≡ calls_of a to = f.calls to in
        let here : calls_in c ≡ calls_of b to =
        rw (eq-eqb to to refl, map-append told_call (a.queue to) (h.call ∷ []), same) (ap (λ (y : CallsOfCpu). record y { queue = y.queue ++ x ∷ [] }) his) in
        let g : Follows online b t = follows_set online a b s to c m (follows_but online to a s f) here (λ j k. rw (ne_eqb j to k) refl) (λ id k. refl) in
        let k : Follows online b u = follows_set online b b t me d below (follows_but online me b t g) (g.calls me) (λ j k. refl) (λ id k. refl) in
        record {
          t = v;
          runs = (v, (queues_call s me f.whole x to m (rw f.online_is on) ne (f.places h.call.id l ∙ free), refl));
          follows = follows_placed online b (appended a me to (Some h)) u h.call.id (Queue to) l (rw (eq-eqb h.call.id h.call.id refl) refl)
              (λ j k. put_other a.place h.call.id (machine.Queued to) j k) (λ j. refl) k;
          leaves = leaves_then s u v (leaves_then s t u (leaves_cpu s to c f.cpus_are m refl refl) (leaves_cpu t me d g.cpus_are below refl refl))
              (leaves_place u h.call.id (Queue to));
        }
