-- A record is locked from the `queue` of a call to its `unlock`.
use Rattle.trace_laws.proofs.Names.{OtherNode, is_bare, other_by, owing, pushed_other}
use Rattle.trace_laws.proofs.Calls.CallEvents.{either_state}
use Rattle.trace_laws.proofs.Names.{arith, Batch, Bool, Call, CallEvent, Class, CpuState, Err, Event, Free, List, Ok, Queue, Run, Runs}
use Rattle.trace_laws.proofs.Names.{StateValue, [], accepted, ap, begin_by, call_goes, cases_eq, cpu_at, end_by, ended, entered_by}
use Rattle.trace_laws.proofs.Names.{eq-eqb, false, freed, freed_from, freed_if, get_or-set_other, get_or-set_same, goes, idle_by, if◌then◌else◌, in_queue, inl}
use Rattle.trace_laws.proofs.Names.{inr, interrupted, is_batch, is_online, is_queue, is_some, joined, may_take, moved, ne_eqb, not, on_cpu, opening}
use Rattle.trace_laws.proofs.Names.{order, place_at, place_of_run, place_reason, placed, placed_unless, queue_by, refl, runs_locked, send_by, sent}
use Rattle.trace_laws.proofs.Names.{slice_index_or, subst, sym, take_by, taken, true, unlock_by, unlocked, with_cpu, with_place, ℕ, ◌&&◌, ◌<◌, ◌==◌}
use Rattle.trace_laws.proofs.Names.{◌>>=◌, ◌∙◌, ◌∷◌, ◌≡◌}
use Rattle.trace_model.specs.declared.event.CallEvent.TheVariants as calls
use Rattle.trace_model.specs.declared.event.Event.TheVariants as event
use Rattle.trace_model.specs.declared.reason.Reason.TheVariants as reason
use Rattle.trace_model.specs.declared.call.Place.{Place}
use Rattle.trace_laws.proofs.Records.EventPlaces.{async_any, entered_begins, free_at_first, has_below, leaves_run, mover_below, one_count, placed_at_first}
use Rattle.trace_laws.proofs.Records.EventPlaces.{placed_goes, placed_runs, put_at}
use Rattle.trace_laws.proofs.Records.OnePlace.{Placed, leaves, one_is, place_before, place_changed, queue_is}
use Rattle.trace_laws.proofs.Records.RecordMoves.{Enters, Kind, Nowhere, Shift, leaves_unlocked, place_of, run_kind}
use Rattle.trace_laws.proofs.Stops.AtRun.{runs_last, setting_at_first, setting_goes, setting_runs}
use Rattle.trace_laws.proofs.{Calls.CallEvents.made_on_cpu, Calls.MadeSteps.both_made, Calls.MadeSteps.failed, Calls.MadeSteps.low_event}
use Rattle.trace_laws.proofs.{Calls.MadeSteps.passed}
use Rattle.trace_laws.proofs.{Calls.OtherEvents.label_keeps_calls, Calls.OtherEvents.stop_keeps_calls, Calls.StateSteps.cpu_changed}
use Rattle.trace_laws.specs.RecordTurns.{Allows, RecordsTakeTurns, locked_from, locked_next}

-- a record is not free
abbrev is_taken : Place → Bool
is_taken Free = false
is_taken _ = true

abbrev taken_at : StateValue → ℕ → Bool
taken_at s r = is_taken (place_at s r)

taken_free : (place : Place) → place ≡ Free → is_taken place ≡ false
taken_free place e = rw e refl

taken_of : (kind : Kind) (cpu : ℕ) → (kind ≡ Nowhere → ⊥) → is_taken (place_of kind cpu) ≡ true
taken_of kind cpu h1 = search arith

-- What an event makes of a record.
record Turns (r actor : ℕ) (e : Event) (s t : StateValue) : Type 0 where
  allows : Allows r (taken_at s r) e
  after : taken_at t r ≡ locked_next r (taken_at s r) (actor, e)

-- the records are as they were
same_places : (s t : StateValue) (r : ℕ) → t.places ≡ s.places → taken_at t r ≡ taken_at s r
same_places s t r same = ap (λ (xs : List Place). is_taken (slice_index_or xs r Free)) same

-- a record that moves was where a CPU had it
mover_place : (s : StateValue) (actor id : ℕ) (from to : Kind) (c : CpuState) → Placed s → Shift id from to (cpu_at s actor) c → leaves from to ≡ true →
    id < 65536
    → place_at s id ≡ place_of from actor
mover_place s actor id from to c p sh e low =
    place_before (place_at s id) id actor from to (cpu_at s actor) c (p.each id low actor (mover_below s actor id from to c p sh e)) sh e

-- no unlock is left out
pub freed_told : (id : ℕ) (place : Place) (s t : StateValue) → s.setting.without.unlocks ≡ false → freed_from id place s ≡ Ok t → (place ≡ Free) × (s ≡ t)
freed_told id place s t h1 h2 = search arith

queue_turns : (source id to : ℕ) (class : Class) (func info r : ℕ) (s t : StateValue) → Placed s → s.setting.without.unlocks ≡ false → r < 65536
    → queue_by (record { source = source; id = id; class = class; func = func; info = info }) to s ≡ Ok t
    → Turns r source (event.Call (calls.Queue id to class func info)) s t
unfolding queue_by
queue_turns source id to class func info r s t pl told low e =
    let call : Call = record { source = source; id = id; class = class; func = func; info = info } in
    let p = passed (is_online s.setting to) (if to == source then Err (reason.IsCaller to) else (freed id s >>= λ m. Ok (joined call to m)))
    (reason.NotOnline to) t e in
    let q = failed (to == source) (freed id s >>= λ m. Ok (joined call to m)) (reason.IsCaller to) t p.1 in
    let m = both_made (freed id s) (λ m. Ok (joined call to m)) t q.1 in
    let f = freed_told id (place_at s id) s m.0 told m.1.0 in
    record {
      allows = λ here. rw here at (taken_free (place_at s id) f.0);
      after = search (cases_eq, eq-eqb, get_or-set_same, ne_eqb, get_or-set_other, arith);
    }

free_turns : (actor id r : ℕ) (s t : StateValue) → s.setting.without.unlocks ≡ false → freed id s ≡ Ok t → Turns r actor (event.Call (calls.Free id)) s t
free_turns actor id r s t told e = search (freed_told, taken_free, arith)

unlock_turns : (actor id r : ℕ) (s t : StateValue) → Placed s → r < 65536 → unlock_by actor id s ≡ Ok t → Turns r actor (event.Call (calls.Unlock id)) s t
unfolding unlock_by
unlock_turns actor id r s t pl low e =
    let a = cpu_at s actor in
    let made = unlocked id (is_batch (place_at s id) actor) (place_reason id (place_at s id)) a in
    let n = both_made (on_cpu actor s made) (λ x. Ok (with_place id Free x)) t e in
    let m = made_on_cpu actor s n.0 made n.1.0 in
    let l = leaves_unlocked id (is_batch (place_at s id) actor) (place_reason id (place_at s id)) a m.0 m.1.0 in
    let leaves_it = elim l.is_from as (λ x. leaves l.from Nowhere ≡ true) [ inl x ↦ rw x refl | inr x ↦ rw x refl ] in
    let some : l.from ≡ Nowhere → ⊥ = search (l.is_from, arith) in
    record {
      allows = λ here.
          let low_id : id < 65536 = rw here low in
          let at = mover_place s actor id l.from Nowhere m.0 pl l.shift leaves_it low_id in
          let taken_here : taken_at s id ≡ true = ap is_taken at ∙ taken_of l.from actor some in rw here at taken_here;
      after = search (cases_eq, eq-eqb, get_or-set_same, ne_eqb, get_or-set_other, arith);
    }

-- a queue that is taken keeps its records
take_turns : (actor r : ℕ) (s t : StateValue) → Placed s → r < 65536 → take_by actor s ≡ Ok t → Turns r actor (event.Call calls.Take) s t
unfolding take_by
take_turns actor r s t pl low e =
    let x = with_cpu actor (moved actor s) (taken (cpu_at s actor)) in
    let m = both_made (may_take (not s.setting.without.interrupts) (cpu_at s actor)) (λ u. Ok x) t e in
    let same : x ≡ t = cc in
    let places : t.places ≡ placed (Batch actor) (cpu_at s actor).queue s.places = ap (λ y. y.places) (sym same) in
    let put = put_at (Batch actor) (cpu_at s actor).queue s.places r (rw pl.places_are low) in
    record {
      allows = tt;
      after = (ap (λ (xs : List Place). is_taken (slice_index_or xs r Free)) places) ∙ elim put.how [
        | inl h ↦ ap is_taken h.1
        | inr h ↦
            (let below = has_below s actor r pl h.0 in
            let was : place_at s r ≡ Queue actor =
            queue_is (place_at s r) actor (one_is (is_queue (place_at s r) actor) (one_count (in_queue r (cpu_at s actor)) (is_queue (place_at s r) actor) h.0
            (pl.each r low actor below).queue)) in
            ap is_taken h.1 ∙ ap is_taken (sym was))
      ];
    }

entered_locked : (order : Bool) (actor id func info : ℕ) (place : Place) (s : StateValue) (c : CpuState) → order ≡ false → s.setting.without.unlocks ≡ false
    → is_some (cpu_at s actor).current ≡ false → entered_by order actor (record { id = id; func = func; info = info }) place s ≡ Ok c → runs_locked c ≡ true
entered_locked order actor id func info place s c h1 h2 h3 h4 = search (passed, both_made, failed, arith)

begin_places : (actor id func info r : ℕ) (s : StateValue) (c : CpuState) (unless : Bool) → Placed s → r < 65536 → (unless ≡ false →
    Enters id (cpu_at s actor) c)
    → (unless ≡ false → runs_locked c ≡ true) → taken_at (placed_unless unless actor id (with_cpu actor s c)) r ≡ taken_at s r
begin_places actor id func info r s c true pl low enters locked = refl
begin_places actor id func info r s c false pl low enters locked =
    let en = enters refl in
    let l = leaves_run en.from en.class en.is_from in
    let below = mover_below s actor id en.from (run_kind en.class) c pl en.shift l in
    let changed : cpu_at (with_cpu actor s c) actor ≡ c = cpu_changed actor s c (rw pl.cpus_are below) in
    let place : place_of_run actor (cpu_at (with_cpu actor s c) actor) ≡ Run actor =
    ap (λ x. place_of_run actor x) changed ∙ ap (λ (b : Bool). if b then Run actor else Free) (locked refl) in
    let some : en.from ≡ Nowhere → ⊥ = search (en.is_from, arith) in
    elim (cases_eq id r) [
      | inl here ↦
          (let was = mover_place s actor id en.from (run_kind en.class) c pl en.shift l (rw here low) in
          let now = place_changed id (place_of_run actor (cpu_at (with_cpu actor s c) actor)) (with_cpu actor s c) (rw pl.places_are (rw here low)) in
          let a : taken_at (placed_unless false actor id (with_cpu actor s c)) id ≡ true = ap is_taken now ∙ ap is_taken place in
          let b : taken_at s id ≡ true = ap is_taken was ∙ taken_of en.from actor some in
          subst (λ (x : ℕ). taken_at (placed_unless false actor id (with_cpu actor s c)) x ≡ taken_at s x) here (a ∙ sym b))
      | inr ne ↦ ap is_taken (get_or-set_other (with_cpu actor s c).places id r (place_of_run actor (cpu_at (with_cpu actor s c) actor)) Free (λ x. ne (sym x)))
    ]

begin_turns : (actor id func info r : ℕ) (s t : StateValue) → Placed s → r < 65536 → s.setting.without.order ≡ false → s.setting.without.unlocks ≡ false
    → begin_by actor (record { id = id; func = func; info = info }) s ≡ Ok t → Turns r actor (event.Call (calls.Begin id func info)) s t
unfolding begin_by
begin_turns actor id func info r s t pl low order unlocks e =
    let place = place_at s id in
    let unless = is_some (cpu_at s actor).current in
    let made = entered_by s.setting.without.order actor (record { id = id; func = func; info = info }) place s in
    let n = both_made (on_cpu actor s made) (λ x. Ok (placed_unless unless actor id x)) t e in
    let m = made_on_cpu actor s n.0 made n.1.0 in
    let b = entered_begins s.setting.without.order actor id func info place s m.0 (async_any s actor pl) m.1.0 in
    let end : with_cpu actor s m.0 ≡ n.0 = m.1.1 in
    let same : placed_unless unless actor id (with_cpu actor s m.0) ≡ t = ap (λ x. placed_unless unless actor id x) end ∙ cc in
    record {
      allows = tt;
      after = ap (λ x. taken_at x r) (sym same) ∙ begin_places actor id func info r s m.0 unless pl low (λ x. b.how.1 (sym b.unless_is ∙ x))
          (λ none. entered_locked s.setting.without.order actor id func info place s m.0 order unlocks none m.1.0);
    }

none_freed : (test unlocks : Bool) (id : ℕ) (s : StateValue) → unlocks ≡ false → let t = freed_if (test && unlocks) id s in t.places ≡ s.places
none_freed test unlocks id s e = search arith

end_turns : (actor id r : ℕ) (s t : StateValue) → s.setting.without.unlocks ≡ false → end_by actor id s ≡ Ok t → Turns r actor (event.Call (calls.End id)) s t
unfolding end_by
end_turns actor id r s t told e =
    let unlocks = s.setting.without.unlocks in
    let made = ended id (not unlocks) (cpu_at s actor) in
    let test = runs_locked (cpu_at s actor) && unlocks in
    let n = both_made (on_cpu actor s made) (λ x. Ok (freed_if test id x)) t e in
    let same : freed_if test id n.0 ≡ t = cc in
    let places : t.places ≡ s.places = ap (λ x. x.places) (sym same) ∙ none_freed (runs_locked (cpu_at s actor)) unlocks id n.0 told ∙
    ap (λ x. x.places) (sym (made_on_cpu actor s n.0 made n.1.0).1.1) in
    record { allows = tt; after = same_places s t r places }

send_turns : (actor to r : ℕ) (s t : StateValue) → send_by actor to s ≡ Ok t → Turns r actor (event.Call (calls.Send to)) s t
unfolding send_by
send_turns actor to r s t e =
    let m = with_cpu to s (interrupted (cpu_at s to)) in
    let x = with_cpu actor m (sent to (cpu_at m actor)) in
    let p = passed (is_online s.setting to) (Ok x) (reason.NotOnline to) t e in
    let same : x ≡ t = cc in
    record { allows = tt; after = same_places s t r (ap (λ y. y.places) (sym same)) }

other_turns : (actor to r : ℕ) (node : OtherNode) (s t : StateValue) → s.setting.without.order ≡ false → other_by actor to s ≡ Ok t
    → Turns r actor (event.Call (calls.QueueOther to node)) s t
unfolding other_by
other_turns actor to r node s t order e =
    let m = with_cpu to s (pushed_other (cpu_at s to)) in
    let x = with_cpu actor m (owing to (is_bare (cpu_at s to)) (cpu_at m actor)) in
    let y = if s.setting.without.order then s else x in
    let p = passed (is_online s.setting to) (if to == actor then Err (reason.IsCaller to) else Ok y) (reason.NotOnline to) t e in
    let q = failed (to == actor) (Ok y) (reason.IsCaller to) t p.1 in
    let same : y ≡ t = cc in
    let places : y.places ≡ s.places = either_state (λ z. z.places ≡ s.places) s.setting.without.order s x refl refl in
    record { allows = tt; after = same_places s t r (ap (λ z. z.places) (sym same) ∙ places) }

call_turns : (actor r : ℕ) (e : CallEvent) (s t : StateValue) → Placed s → r < 65536 → s.setting.without.order ≡ false → s.setting.without.unlocks ≡ false
    → goes actor (event.Call e) s ≡ Ok t → Turns r actor (event.Call e) s t
unfolding call_goes
call_turns actor r (calls.Queue id to class func info) s t p low order unlocks e = queue_turns actor id to class func info r s t p unlocks low e
call_turns actor r (calls.Free id) s t p low order unlocks e = free_turns actor id r s t unlocks e
call_turns actor r (calls.QueueOther to node) s t p low order unlocks e = other_turns actor to r node s t order e
call_turns actor r (calls.Send to) s t p low order unlocks e = send_turns actor to r s t e
call_turns actor r calls.Accept s t p low order unlocks e =
    let m = made_on_cpu actor s t (accepted (cpu_at s actor)) e in record { allows = tt; after = same_places s t r (ap (λ y. y.places) (sym m.1.1)) }
call_turns actor r calls.Idle s t p low order unlocks e =
    let m = both_made (idle_by actor s) (λ u. Ok s) t e in
    let same : s ≡ t = cc in record { allows = tt; after = ap (λ x. taken_at x r) (sym same) }
call_turns actor r calls.Take s t p low order unlocks e = take_turns actor r s t p low e
call_turns actor r (calls.Unlock id) s t p low order unlocks e = unlock_turns actor id r s t p low e
call_turns actor r (calls.Begin id func info) s t p low order unlocks e = begin_turns actor id func info r s t p low order unlocks e
call_turns actor r (calls.End id) s t p low order unlocks e = end_turns actor id r s t unlocks e

turns_goes : (actor r : ℕ) (e : Event) (s t : StateValue) → Placed s → r < 65536 → s.setting.without.order ≡ false → s.setting.without.unlocks ≡ false →
    goes actor e s ≡ Ok t
    → Turns r actor e s t
turns_goes actor r (event.Call e) s t p low order unlocks g = call_turns actor r e s t p low order unlocks g
turns_goes actor r (event.Stop e) s t p low order unlocks g =
    record { allows = tt; after = same_places s t r (stop_keeps_calls actor e s t g).places_are }
turns_goes actor r (event.Label e) s t p low order unlocks g =
    record { allows = tt; after = same_places s t r (label_keeps_calls actor e s t (low_event actor _ t g).1).places_are }

turns_run : (r : ℕ) (es : List (ℕ × Event)) (s t : StateValue) → Placed s → r < 65536 → s.setting.without.order ≡ false → s.setting.without.unlocks ≡ false →
    Runs s es t
    → taken_at t r ≡ locked_from r (taken_at s r) es
unfolding locked_from
turns_run r [] s t p low order unlocks run = ap (λ x. taken_at x r) run
turns_run r (e ∷ es) s t p low order unlocks (m, (g, run)) =
    let set : m.setting ≡ s.setting = setting_goes e.0 e.1 s m g in
    turns_run r es m t (placed_goes e.0 e.1 s m p g) low (ap (λ u. u.without.order) set ∙ order) (ap (λ u. u.without.unlocks) set ∙ unlocks) run
    ∙ ap (λ b. locked_from r b es) (turns_goes e.0 r e.1 s m p low order unlocks g).after

pub records_take_turns : RecordsTakeTurns
records_take_turns u words es t cpu e order unlocks run r low =
    let first = opening u words in
    let m = runs_last es (cpu, e) first t run in
    let s = m.0 in
    let set0 : first.setting ≡ u = setting_at_first u words in
    let set : s.setting ≡ u = setting_runs es first s m.1.0 ∙ set0 in
    let p0 = placed_at_first u words in
    let now = turns_run r es first s p0 low (ap (λ v. v.without.order) set0 ∙ order) (ap (λ v. v.without.unlocks) set0 ∙ unlocks) m.1.0 in
    let none : taken_at first r ≡ false = ap is_taken (free_at_first u words r low) in
    let locked : taken_at s r ≡ locked_from r false es = now ∙ ap (λ b. locked_from r b es) none in
    let step = turns_goes cpu r e s t (placed_runs es first s p0 m.1.0) low (ap (λ v. v.without.order) set ∙ order) (ap (λ v. v.without.unlocks) set ∙
    unlocks) m.1.1 in
    rw locked at step.allows
