-- What the events of a run show of the calls of one CPU.
use Rattle.trace_laws.proofs.Names.{Bool, CallEvent, CallsShown, Event, IsPermutation-refl, List, Ok, Runs, StateValue, [], ap, append-nil, arith, begin_of}
use Rattle.trace_laws.proofs.Names.{begins, call_goes, cond, count_by, cpu_at, ends, goes, held, id_of, idle_by, is_from, is_to, length, map-append, not}
use Rattle.trace_laws.proofs.Names.{notes, notes_now, queue_from, queue_next, queued, queued_now, refl, running, subst, sym, taken_from, taken_now, takes_now}
use Rattle.trace_laws.proofs.Names.{waiting, ℕ, ◌++◌, ◌+◌, ◌<◌, ◌∙◌, ◌∷◌, ◌≡◌}
use Rattle.std.proofs.lemmas.List.Sums.{sum_by-append}
use Rattle.trace_model.specs.declared.event.CallEvent.TheVariants as calls
use Rattle.trace_model.specs.declared.event.Event.TheVariants as event
use Rattle.trace_laws.proofs.Calls.CallEvents.{EventShows, accept_shows, begin_shows, end_shows, other_shows, queue_shows, quiet_event, send_shows}
use Rattle.trace_laws.proofs.Calls.CallEvents.{take_shows, unlock_shows}
use Rattle.trace_laws.proofs.{Calls.CpuSteps.shows_same, Calls.MadeSteps.both_made, Calls.MadeSteps.low_event, Calls.OtherEvents.KeepsCalls}
use Rattle.trace_laws.proofs.{Calls.OtherEvents.label_keeps_calls, Calls.OtherEvents.stop_keeps_calls, Calls.StateSteps.GoesQuietly}
use Rattle.trace_laws.proofs.{Calls.StateSteps.freed_goes, Calls.StateSteps.goes_same, Calls.TwoSteps.joined, Calls.TwoSteps.joined_once}

-- calls that are as before are quiet
kept_goes : (told : Bool) (cpu : ℕ) (s t : StateValue) → cpu < length s.cpus → KeepsCalls s t → GoesQuietly told cpu s t
kept_goes told cpu s t below k = record {
  setting_is = k.setting_is;
  cpus_are = k.cpus_are;
  shows = shows_same told (cpu_at s cpu) (cpu_at t cpu) (k.calls cpu below);
}

call_shows : (order : Bool) (cpu actor : ℕ) (e : CallEvent) (s t : StateValue) → s.setting.without.order ≡ order → cpu < length s.cpus
    → goes actor (event.Call e) s ≡ Ok t → EventShows order cpu (actor, event.Call e) s t
unfolding call_goes
call_shows order cpu actor (calls.Queue id to class func info) s t o below e = queue_shows order cpu actor id to class func info s t o below e
call_shows order cpu actor (calls.Free id) s t o below e =
    quiet_event order cpu (actor, event.Call (calls.Free id)) s t refl refl refl refl refl (freed_goes order cpu id s t o below e)
call_shows order cpu actor (calls.QueueOther to node) s t o below e = other_shows order cpu actor to node s t below e
call_shows order cpu actor (calls.Send to) s t o below e = send_shows order cpu actor to s t below e
call_shows order cpu actor calls.Accept s t o below e = accept_shows order cpu actor s t below e
call_shows order cpu actor calls.Idle s t o below e =
    let m = both_made (idle_by actor s) (λ u. Ok s) t e in
    let same : s ≡ t = cc in
    quiet_event order cpu (actor, event.Call calls.Idle) s t refl refl refl refl refl
    (subst (λ (x : StateValue). GoesQuietly (not order) cpu s x) same (goes_same (not order) cpu s s refl refl))
call_shows order cpu actor calls.Take s t o below e = take_shows order cpu actor s t below e
call_shows order cpu actor (calls.Unlock id) s t o below e = unlock_shows order cpu actor id s t below e
call_shows order cpu actor (calls.Begin id func info) s t o below e = begin_shows order cpu actor id func info s t o below e
call_shows order cpu actor (calls.End id) s t o below e = end_shows order cpu actor id s t below e

pub event_shows : (order : Bool) (cpu actor : ℕ) (e : Event) (s t : StateValue) → s.setting.without.order ≡ order → cpu < length s.cpus
    → goes actor e s ≡ Ok t → EventShows order cpu (actor, e) s t
event_shows order cpu actor (event.Call e) s t o below g = call_shows order cpu actor e s t o below g
event_shows order cpu actor (event.Stop e) s t o below g =
    quiet_event order cpu (actor, event.Stop e) s t refl refl refl refl refl
    (kept_goes (not order) cpu s t below (stop_keeps_calls actor e s t g))
event_shows order cpu actor (event.Label e) s t o below g =
    quiet_event order cpu (actor, event.Label e) s t refl refl refl refl refl
    (kept_goes (not order) cpu s t below (label_keeps_calls actor e s t (low_event actor _ t g).1))

-- a count goes on
pub count_append : {X : Type 0} (p : X → Bool) (xs ys : List X) → count_by p (xs ++ ys) ≡ count_by p xs + count_by p ys
count_append p xs ys = sum_by-append (λ x. cond (p x) 1 0) xs ys

count_more : {X : Type 0} (n : ℕ) (p : X → Bool) (xs ys : List X) → (n + count_by p xs) + count_by p ys ≡ n + count_by p (xs ++ ys)
count_more n p xs ys = let e : count_by p (xs ++ ys) ≡ count_by p xs + count_by p ys = count_append p xs ys in rw e (omega arith)

-- no event has happened
shown_none : (cpu : ℕ) (s : StateValue) → CallsShown cpu [] s s
unfolding begins ends notes queued taken_from queue_from
shown_none cpu s = record {
  began = [];
  over = [];
  begins_are = refl;
  ends_are = refl;
  one_at_a_time = append-nil (running (cpu_at s cpu));
  each_once = rw append-nil (IsPermutation-refl (held (cpu_at s cpu)));
  in_order = λ o. append-nil (waiting (cpu_at s cpu));
  queue_is = λ o. refl;
  long = refl;
  tally = λ source n below was. let z : n + 0 ≡ n = omega arith in rw z was;
  long_queued = refl;
  noted = λ to n below was. let z : n + 0 ≡ n = omega arith in rw z was;
}

-- one event comes before others
shown_more : (order : Bool) (cpu : ℕ) (e : ℕ × Event) (es : List (ℕ × Event)) (s m t : StateValue) → s.setting.without.order ≡ order →
    EventShows order cpu e s m
    → CallsShown cpu es m t → CallsShown cpu (e ∷ es) s t
unfolding begins ends notes queued taken_from queue_from
shown_more order cpu e es s m t o first more =
    let f = first.goes.shows in
    let a = cpu_at s cpu in
    let b = cpu_at m cpu in
    let c = cpu_at t cpu in
    let same : m.setting.without.order ≡ s.setting.without.order = ap (λ u. u.without.order) first.goes.setting_is in
    record {
      began = first.began ++ more.began;
      over = first.over ++ more.over;
      begins_are = map-append begin_of first.began more.began ∙ rw (first.begins_are, more.begins_are) refl;
      ends_are = map-append id_of first.over more.over ∙ rw (first.ends_are, more.ends_are) refl;
      one_at_a_time = joined (running a) first.began first.over (running b) more.began more.over (running c) f.one_at_a_time more.one_at_a_time;
      each_once = joined_once (held a) (queued_now cpu e) first.began (held b) (queued cpu es) more.began (held c) f.each_once more.each_once;
      in_order = λ told.
          let q : b.queue ≡ queue_next (takes_now cpu e) a.queue (queued_now cpu e) = f.queue_is (search arith) in
          rw (← q) (joined (waiting a) (taken_now (takes_now cpu e) a.queue) first.began (waiting b) (taken_from cpu b.queue es) more.began (waiting c)
          (f.in_order (search arith)) (more.in_order (same ∙ told)));
      queue_is = λ told.
          let q : b.queue ≡ queue_next (takes_now cpu e) a.queue (queued_now cpu e) = f.queue_is (search arith) in
          rw (← q) (more.queue_is (same ∙ told));
      long = more.long ∙ f.long;
      tally = λ source n below was.
          let z : (n + count_by (is_from source) first.over) + count_by (is_from source) more.over ≡ n + count_by (is_from source) (first.over ++ more.over) =
          count_more n (is_from source) first.over more.over in
          rw z at (more.tally source (n + count_by (is_from source) first.over) (rw f.long below) (f.tally source n below was));
      long_queued = more.long_queued ∙ f.long_queued;
      noted = λ to n below was.
          let z : (n + count_by (is_to to) (notes_now cpu e)) + count_by (is_to to) (notes cpu es) ≡ n + count_by (is_to to) (notes_now cpu e ++ notes cpu es) =
          count_more n (is_to to) (notes_now cpu e) (notes cpu es) in
          rw z at (more.noted to (n + count_by (is_to to) (notes_now cpu e)) (rw f.long_queued below) (f.noted to n below was));
    }

pub calls_shown : (order : Bool) (cpu : ℕ) (es : List (ℕ × Event)) (s t : StateValue) → s.setting.without.order ≡ order → cpu < length s.cpus → Runs s es t →
    CallsShown cpu es s t
calls_shown order cpu [] s t o below run = subst (λ (x : StateValue). CallsShown cpu [] s x) (sym run) (shown_none cpu s)
calls_shown order cpu (e ∷ es) s t o below (m, (g, run)) =
    let first = event_shows order cpu e.0 e.1 s m o below g in
    shown_more order cpu e es s m t o first
    (calls_shown order cpu es m t (ap (λ u. u.without.order) first.goes.setting_is ∙ o) (rw first.goes.cpus_are below) run)
