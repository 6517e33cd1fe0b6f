-- What each event of calls shows.
use Rattle.trace_laws.proofs.Names.{OtherNode, other_by, owing, pushed_other}
use Rattle.trace_laws.proofs.Names.{arith, Bool, Call, Class, CpuState, Err, Event, Free, List, Ok, Queue, Reason, Result, Shows, StateValue, [], accept_by}
use Rattle.trace_laws.proofs.Names.{accepted, ap, begin_by, begin_of, cpu_at, end_by, ended, entered_by, eqb-false, eqb-true, false, freed, freed_if, id_of}
use Rattle.trace_laws.proofs.Names.{if◌then◌else◌, interrupted, is_bare, is_batch, is_online, is_some, joined, length, map, may_take, moved, not, not_over}
use Rattle.trace_laws.proofs.Names.{noted, notes_now, on_cpu, only_if, place_at, place_reason, placed_unless, pushed, queue_by, queued_now, refl, runs_locked}
use Rattle.trace_laws.proofs.Names.{send_by, sent, subst, sym, take_by, taken, takes_now, true, unlock_by, unlocked, with_cpu, with_place, ℕ, ◌&&◌, ◌<◌, ◌==◌}
use Rattle.trace_laws.proofs.Names.{◌>>=◌, ◌∷◌, ◌≡◌}
use Rattle.trace_model.specs.declared.event.CallEvent.TheVariants as calls
use Rattle.trace_model.specs.declared.event.Event.TheVariants as event
use Rattle.trace_model.specs.declared.reason.Reason.TheVariants as reason
use Rattle.trace_model.specs.declared.call.Place.{Place}
use Rattle.trace_laws.proofs.Calls.CpuSteps.{BeginShown, SameCalls, shows_begun, shows_begun_loose, shows_ended, shows_noted, shows_pushed, shows_same}
use Rattle.trace_laws.proofs.Calls.CpuSteps.{shows_taken, shows_unlocked}
use Rattle.trace_laws.proofs.Calls.StateSteps.{Goes, GoesQuietly, freed_goes, goes_elsewhere, goes_first, goes_here, goes_last, goes_quiet, goes_same}
use Rattle.trace_laws.proofs.{Calls.MadeSteps.both_made, Calls.MadeSteps.failed, Calls.MadeSteps.passed}
use Rattle.trace_laws.specs.{CallEvents.begins_now, CallEvents.ends_now}

-- An event shows these calls of a CPU.
pub record EventShows (order : Bool) (cpu : ℕ) (e : ℕ × Event) (s t : StateValue) : Type 0 where
  pub began : List Call
  pub over : List Call
  pub begins_are : map begin_of began ≡ begins_now cpu e
  pub ends_are : map id_of over ≡ ends_now cpu e
  pub goes : Goes (not order) cpu (queued_now cpu e) (takes_now cpu e) began over (notes_now cpu e) s t

-- calls of the CPU that acts
abbrev pub if_actor : Bool → List Call → List Call
if_actor true calls = calls
if_actor false calls = []

by_actor : (told : Bool) (cpu actor : ℕ) (began over : List Call) (s : StateValue) (c : CpuState) → cpu < length s.cpus
    → Shows told [] false began over [] (cpu_at s actor) c → (same : Bool) → (actor == cpu) ≡ same
    → Goes told cpu [] false (if_actor same began) (if_actor same over) [] s (with_cpu actor s c)
by_actor told cpu actor began over s c below shows true e =
    let same : actor ≡ cpu = eqb-true actor cpu e in
    subst (λ (o : ℕ). Shows told [] false began over [] (cpu_at s o) c → Goes told cpu [] false began over [] s (with_cpu o s c)) (sym same)
    (goes_here told cpu [] false began over [] s c below) shows
by_actor told cpu actor began over s c below shows false e = goes_elsewhere told cpu actor s c (λ x. eqb-false actor cpu e (sym x))

-- what a CPU makes of its part
pub made_on_cpu : (cpu : ℕ) (s t : StateValue) (made : Result CpuState Reason) → on_cpu cpu s made ≡ Ok t → (c : CpuState) × ((made ≡ Ok c) ×
    (with_cpu cpu s c ≡ t))
made_on_cpu cpu s t made e = let m = both_made made (λ c. Ok (with_cpu cpu s c)) t e in (m.0, (m.1.0, cc))

-- an event shows what it shows of an equal state
ends_at : (order : Bool) (cpu : ℕ) (e : ℕ × Event) (s t u : StateValue) → t ≡ u → EventShows order cpu e s t → EventShows order cpu e s u
ends_at order cpu e s t u same shown = subst (λ (x : StateValue). EventShows order cpu e s x) same shown

pub quiet_event : (order : Bool) (cpu : ℕ) (e : ℕ × Event) (s t : StateValue) → [] ≡ begins_now cpu e → [] ≡ ends_now cpu e → queued_now cpu e ≡ [] →
    takes_now cpu e ≡ false
    → notes_now cpu e ≡ [] → GoesQuietly (not order) cpu s t → EventShows order cpu e s t
quiet_event order cpu e s t h1 h2 h3 h4 h5 h6 = search arith

-- a call joins a queue
joined_shows : (told : Bool) (cpu to : ℕ) (call : Call) (s : StateValue) → cpu < length s.cpus → (same : Bool) → (to == cpu) ≡ same
    → Goes told cpu (only_if same call) false [] [] [] s (with_cpu to s (pushed call (cpu_at s to)))
joined_shows told cpu to call s below true e =
    let same : to ≡ cpu = eqb-true to cpu e in
    subst (λ (o : ℕ). Goes told cpu (call ∷ []) false [] [] [] s (with_cpu o s (pushed call (cpu_at s o)))) (sym same)
    (goes_here told cpu (call ∷ []) false [] [] [] s (pushed call (cpu_at s cpu)) below
    (shows_pushed told call (cpu_at s cpu) (pushed call (cpu_at s cpu)) (record { queue = refl; batch = refl; current = refl; ran = refl; queued = refl })))
joined_shows told cpu to call s below false e = goes_elsewhere told cpu to s (pushed call (cpu_at s to)) (λ x. eqb-false to cpu e (sym x))

noted_shows : (told : Bool) (cpu to source : ℕ) (first : Bool) (s : StateValue) → cpu < length s.cpus → (same : Bool) → (source == cpu) ≡ same
    → Goes told cpu [] false [] [] (only_if same to) s (with_cpu source s (noted to first (cpu_at s source)))
noted_shows told cpu to source first s below true e =
    let same : source ≡ cpu = eqb-true source cpu e in
    subst (λ (o : ℕ). Goes told cpu [] false [] [] (to ∷ []) s (with_cpu o s (noted to first (cpu_at s o)))) (sym same)
    (goes_here told cpu [] false [] [] (to ∷ []) s (noted to first (cpu_at s cpu)) below (shows_noted told to first (cpu_at s cpu)))
noted_shows told cpu to source first s below false e = goes_elsewhere told cpu source s (noted to first (cpu_at s source)) (λ x. eqb-false source cpu e (sym x))

joined_goes : (told : Bool) (cpu to : ℕ) (call : Call) (s : StateValue) → cpu < length s.cpus
    → Goes told cpu (only_if (to == cpu) call) false [] [] (only_if (call.source == cpu) to) s (joined call to s)
joined_goes told cpu to call s below =
    let t = with_cpu to s (pushed call (cpu_at s to)) in
    let u = with_place call.id (Queue to) t in
    let first = is_bare (cpu_at s to) in
    let g = joined_shows told cpu to call s below (to == cpu) refl in
    let h = goes_last told cpu (only_if (to == cpu) call) false [] [] [] s t u g (goes_same told cpu t u refl refl) in
    goes_last told cpu (only_if (to == cpu) call) false [] [] (only_if (call.source == cpu) to) s u (joined call to s) h
    (noted_shows told cpu to call.source first u (rw h.cpus_are below) (call.source == cpu) refl)

pub queue_shows : (order : Bool) (cpu source id to : ℕ) (class : Class) (func info : ℕ) (s t : StateValue) → s.setting.without.order ≡ order →
    cpu < length s.cpus
    → queue_by (record { source = source; id = id; class = class; func = func; info = info }) to s ≡ Ok t
    → EventShows order cpu (source, event.Call (calls.Queue id to class func info)) s t
unfolding queue_by
queue_shows order cpu source id to class func info s t o below e =
    let call : Call = record { source = source; id = id; class = class; func = func; info = info } in
    let p = passed (is_online s.setting to) (if to == source then Err (reason.IsCaller to) else (freed id s >>= λ m. Ok (joined call to m)))
    (reason.NotOnline to) t e in
    let q = failed (to == source) (freed id s >>= λ m. Ok (joined call to m)) (reason.IsCaller to) t p.1 in
    let m = both_made (freed id s) (λ m. Ok (joined call to m)) t q.1 in
    let f = freed_goes order cpu id s m.0 o below m.1.0 in
    let same : joined call to m.0 ≡ t = cc in
    record {
      began = [];
      over = [];
      begins_are = refl;
      ends_are = refl;
      goes = subst (λ (x : StateValue). Goes (not order) cpu (only_if (to == cpu) call) false [] [] (only_if (source == cpu) to) s x) same
          (goes_first (not order) cpu (only_if (to == cpu) call) false [] [] (only_if (source == cpu) to) s m.0 (joined call to m.0) f
          (joined_goes (not order) cpu to call m.0 (rw f.cpus_are below)));
    }

pub send_shows : (order : Bool) (cpu actor to : ℕ) (s t : StateValue) → cpu < length s.cpus → send_by actor to s ≡ Ok t
    → EventShows order cpu (actor, event.Call (calls.Send to)) s t
unfolding send_by
send_shows order cpu actor to s t below e =
    let told = not order in
    let c = interrupted (cpu_at s to) in
    let m = with_cpu to s c in
    let d = sent to (cpu_at m actor) in
    let p = passed (is_online s.setting to) (Ok (with_cpu actor m d)) (reason.NotOnline to) t e in
    let same : with_cpu actor m d ≡ t = cc in
    let g = goes_quiet told cpu to s c below (shows_same told (cpu_at s to) c
    (record { queue = refl; batch = refl; current = refl; ran = refl; queued = refl })) in
    let h = goes_quiet told cpu actor m d (rw g.cpus_are below) (shows_same told (cpu_at m actor) d
    (record { queue = refl; batch = refl; current = refl; ran = refl; queued = refl })) in
    ends_at order cpu (actor, event.Call (calls.Send to)) s (with_cpu actor m d) t same
    (quiet_event order cpu (actor, event.Call (calls.Send to)) s (with_cpu actor m d) refl refl refl refl refl (goes_first told cpu [] false [] [] [] s m
    (with_cpu actor m d) g h))

-- one of two states, of which each has a property
pub either_state : (P : StateValue → Type 0) (b : Bool) (s t : StateValue) → P s → P t → P (if b then s else t)
either_state P true s t p q = p
either_state P false s t p q = q

pub other_shows : (order : Bool) (cpu actor to : ℕ) (node : OtherNode) (s t : StateValue) → cpu < length s.cpus → other_by actor to s ≡ Ok t
    → EventShows order cpu (actor, event.Call (calls.QueueOther to node)) s t
unfolding other_by
other_shows order cpu actor to node s t below e =
    let told = not order in
    let c = pushed_other (cpu_at s to) in
    let m = with_cpu to s c in
    let d = owing to (is_bare (cpu_at s to)) (cpu_at m actor) in
    let n = with_cpu actor m d in
    let x = if s.setting.without.order then s else n in
    let p = passed (is_online s.setting to) (if to == actor then Err (reason.IsCaller to) else Ok x) (reason.NotOnline to) t e in
    let q = failed (to == actor) (Ok x) (reason.IsCaller to) t p.1 in
    let same : x ≡ t = cc in
    let g = goes_quiet told cpu to s c below (shows_same told (cpu_at s to) c
    (record { queue = refl; batch = refl; current = refl; ran = refl; queued = refl })) in
    let h = goes_quiet told cpu actor m d (rw g.cpus_are below) (shows_same told (cpu_at m actor) d
    (record { queue = refl; batch = refl; current = refl; ran = refl; queued = refl })) in
    let both = goes_first told cpu [] false [] [] [] s m n g h in
    ends_at order cpu (actor, event.Call (calls.QueueOther to node)) s x t same
    (quiet_event order cpu (actor, event.Call (calls.QueueOther to node)) s x refl refl refl refl refl
    (either_state (GoesQuietly told cpu s) s.setting.without.order s n (goes_same told cpu s s refl refl) both))

pub accepted_same : (a b : CpuState) → accepted a ≡ Ok b → SameCalls a b
accepted_same a b h1 = search (passed, both_made, arith)

pub accept_shows : (order : Bool) (cpu actor : ℕ) (s t : StateValue) → cpu < length s.cpus → accept_by actor s ≡ Ok t →
    EventShows order cpu (actor, event.Call calls.Accept) s t
accept_shows order cpu actor s t below e =
    let m = made_on_cpu actor s t (accepted (cpu_at s actor)) e in
    ends_at order cpu (actor, event.Call calls.Accept) s (with_cpu actor s m.0) t m.1.1
    (quiet_event order cpu (actor, event.Call calls.Accept) s (with_cpu actor s m.0) refl refl refl refl refl
    (goes_quiet (not order) cpu actor s m.0 below (shows_same (not order) (cpu_at s actor) m.0 (accepted_same (cpu_at s actor) m.0 m.1.0))))

-- where a CPU may take its queue, no call that it has taken is left
pub may_take_over : (interrupts : Bool) (a : CpuState) (u : Unit {0}) → may_take interrupts a ≡ Ok u → not_over a ≡ Ok tt
may_take_over interrupts a u h1 = search (passed, both_made, arith)

take_goes : (told : Bool) (cpu actor : ℕ) (s : StateValue) → cpu < length s.cpus → not_over (cpu_at s actor) ≡ Ok tt → (same : Bool) → (actor == cpu) ≡ same
    → Goes told cpu [] same [] [] [] s (with_cpu actor (moved actor s) (taken (cpu_at s actor)))
take_goes told cpu actor s below over true e =
    let same : actor ≡ cpu = eqb-true actor cpu e in
    subst (λ (o : ℕ). not_over (cpu_at s o) ≡ Ok tt → Goes told cpu [] true [] [] [] s (with_cpu o (moved o s) (taken (cpu_at s o)))) (sym same)
    (λ over. goes_first told cpu [] true [] [] [] s (moved cpu s) (with_cpu cpu (moved cpu s) (taken (cpu_at s cpu))) (goes_same told cpu s
    (moved cpu s) refl refl)
    (goes_here told cpu [] true [] [] [] (moved cpu s) (taken (cpu_at s cpu)) below (shows_taken told (cpu_at s cpu) over))) over
take_goes told cpu actor s below over false e =
    goes_first told cpu [] false [] [] [] s (moved actor s) (with_cpu actor (moved actor s) (taken (cpu_at s actor))) (goes_same told cpu s
    (moved actor s) refl refl)
    (goes_elsewhere told cpu actor (moved actor s) (taken (cpu_at s actor)) (λ x. eqb-false actor cpu e (sym x)))

pub take_shows : (order : Bool) (cpu actor : ℕ) (s t : StateValue) → cpu < length s.cpus → take_by actor s ≡ Ok t →
    EventShows order cpu (actor, event.Call calls.Take) s t
unfolding take_by
take_shows order cpu actor s t below e =
    let x = with_cpu actor (moved actor s) (taken (cpu_at s actor)) in
    let m = both_made (may_take (not s.setting.without.interrupts) (cpu_at s actor)) (λ u. Ok x) t e in
    let same : x ≡ t = cc in
    ends_at order cpu (actor, event.Call calls.Take) s x t same
    (record {
      began = [];
      over = [];
      begins_are = refl;
      ends_are = refl;
      goes = take_goes (not order) cpu actor s below (may_take_over (not s.setting.without.interrupts) (cpu_at s actor) m.0 m.1.0) (actor == cpu) refl;
    })

pub unlock_shows : (order : Bool) (cpu actor id : ℕ) (s t : StateValue) → cpu < length s.cpus → unlock_by actor id s ≡ Ok t →
    EventShows order cpu (actor, event.Call (calls.Unlock id)) s t
unfolding unlock_by
unlock_shows order cpu actor id s t below e =
    let a = cpu_at s actor in
    let here = is_batch (place_at s id) actor in
    let elsewhere = place_reason id (place_at s id) in
    let n = both_made (on_cpu actor s (unlocked id here elsewhere a)) (λ x. Ok (with_place id Free x)) t e in
    let m = made_on_cpu actor s n.0 (unlocked id here elsewhere a) n.1.0 in
    let same : with_place id Free n.0 ≡ t = cc in
    let g = goes_quiet (not order) cpu actor s m.0 below (shows_unlocked (not order) id here elsewhere a m.0 m.1.0) in
    let h = subst (λ (x : StateValue). GoesQuietly (not order) cpu s x) m.1.1 g in
    ends_at order cpu (actor, event.Call (calls.Unlock id)) s (with_place id Free n.0) t same
    (quiet_event order cpu (actor, event.Call (calls.Unlock id)) s (with_place id Free n.0) refl refl refl refl refl
    (goes_last (not order) cpu [] false [] [] [] s n.0 (with_place id Free n.0) h (goes_same (not order) cpu n.0 (with_place id Free n.0) refl refl)))

-- a CPU enters a function
entered_shows : (order : Bool) (actor : ℕ) (id func info : ℕ) (place : Place) (s : StateValue) (c : CpuState) →
    entered_by order actor (record { id = id; func = func; info = info }) place s ≡ Ok c
    → BeginShown (not order) id func info (cpu_at s actor) c
entered_shows true actor id func info place s c e = shows_begun_loose id func info (place_reason id place) (cpu_at s actor) c e
entered_shows false actor id func info place s c e =
    shows_begun true id func info (is_batch place actor) (place_reason id place) (not s.setting.without.unlocks) (cpu_at s actor) c e

placed_goes : (told : Bool) (cpu actor id : ℕ) (unless : Bool) (s : StateValue) → GoesQuietly told cpu s (placed_unless unless actor id s)
placed_goes told cpu actor id true s = goes_same told cpu s s refl refl
placed_goes told cpu actor id false s = goes_same told cpu s (placed_unless false actor id s) refl refl

begin_is_if : (call : Call) (id func info : ℕ) (same : Bool) → begin_of call ≡ record { id = id; func = func; info = info }
    → map begin_of (if_actor same (call ∷ [])) ≡ only_if same (record { id = id; func = func; info = info })
begin_is_if call id func info true e = ap (λ b. b ∷ []) e
begin_is_if call id func info false e = refl

nothing_if : (same : Bool) → if_actor same [] ≡ []
nothing_if true = refl
nothing_if false = refl

pub begin_shows : (order : Bool) (cpu actor id func info : ℕ) (s t : StateValue) → s.setting.without.order ≡ order → cpu < length s.cpus
    → begin_by actor (record { id = id; func = func; info = info }) s ≡ Ok t → EventShows order cpu (actor, event.Call (calls.Begin id func info)) s t
unfolding begin_by
begin_shows order cpu actor id func info s t o below e =
    let place = place_at s id in
    let unless = is_some (cpu_at s actor).current in
    let made = entered_by s.setting.without.order actor (record { id = id; func = func; info = info }) place s in
    let n = both_made (on_cpu actor s made) (λ x. Ok (placed_unless unless actor id x)) t e in
    let m = made_on_cpu actor s n.0 made n.1.0 in
    let shown = subst (λ (b : Bool). BeginShown (not b) id func info (cpu_at s actor) m.0) o
    (entered_shows s.setting.without.order actor id func info place s m.0 m.1.0) in
    let same : placed_unless unless actor id n.0 ≡ t = cc in
    let g = by_actor (not order) cpu actor (shown.call ∷ []) [] s m.0 below shown.shows (actor == cpu) refl in
    ends_at order cpu (actor, event.Call (calls.Begin id func info)) s (placed_unless unless actor id n.0) t same
    (record {
      began = if_actor (actor == cpu) (shown.call ∷ []);
      over = if_actor (actor == cpu) [];
      begins_are = begin_is_if shown.call id func info (actor == cpu) shown.begin_is;
      ends_are = rw (nothing_if (actor == cpu)) refl;
      goes = goes_last (not order) cpu [] false (if_actor (actor == cpu) (shown.call ∷ [])) (if_actor (actor == cpu) []) [] s n.0
          (placed_unless unless actor id n.0)
          (subst (λ (x : StateValue). Goes (not order) cpu [] false (if_actor (actor == cpu) (shown.call ∷ [])) (if_actor (actor == cpu) []) [] s x) m.1.1 g)
          (placed_goes (not order) cpu actor id unless n.0);
    })

end_is_if : (call : Call) (id : ℕ) (same : Bool) → call.id ≡ id → map id_of (if_actor same (call ∷ [])) ≡ only_if same id
end_is_if call id true e = ap (λ b. b ∷ []) e
end_is_if call id false e = refl

freed_if_goes : (told : Bool) (cpu id : ℕ) (test : Bool) (s : StateValue) → GoesQuietly told cpu s (freed_if test id s)
freed_if_goes told cpu id true s = goes_same told cpu s (freed_if true id s) refl refl
freed_if_goes told cpu id false s = goes_same told cpu s s refl refl

pub end_shows : (order : Bool) (cpu actor id : ℕ) (s t : StateValue) → cpu < length s.cpus → end_by actor id s ≡ Ok t →
    EventShows order cpu (actor, event.Call (calls.End id)) s t
unfolding end_by
end_shows order cpu actor id s t below e =
    let a = cpu_at s actor in
    let made = ended id (not s.setting.without.unlocks) a in
    let test = runs_locked a && s.setting.without.unlocks in
    let n = both_made (on_cpu actor s made) (λ x. Ok (freed_if test id x)) t e in
    let m = made_on_cpu actor s n.0 made n.1.0 in
    let shown = shows_ended (not order) (not s.setting.without.unlocks) id a m.0 m.1.0 in
    let same : freed_if test id n.0 ≡ t = cc in
    let g = by_actor (not order) cpu actor [] (shown.call ∷ []) s m.0 below shown.shows (actor == cpu) refl in
    ends_at order cpu (actor, event.Call (calls.End id)) s (freed_if test id n.0) t same
    (record {
      began = if_actor (actor == cpu) [];
      over = if_actor (actor == cpu) (shown.call ∷ []);
      begins_are = rw (nothing_if (actor == cpu)) refl;
      ends_are = end_is_if shown.call id (actor == cpu) shown.id_is;
      goes = goes_last (not order) cpu [] false (if_actor (actor == cpu) []) (if_actor (actor == cpu) (shown.call ∷ [])) [] s n.0 (freed_if test id n.0)
          (subst (λ (x : StateValue). Goes (not order) cpu [] false (if_actor (actor == cpu) []) (if_actor (actor == cpu) (shown.call ∷ [])) [] s x) m.1.1 g)
          (freed_if_goes (not order) cpu id test n.0);
    })
