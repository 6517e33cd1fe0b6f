-- Each event leaves each record in one place.
use Rattle.trace_laws.proofs.Names.{other_by, owing, pushed_other}
use Rattle.trace_laws.proofs.Calls.CallEvents.{either_state}
use Rattle.trace_laws.proofs.Names.{Batch, Bool, Call, CallEvent, Class, CpuState, Err, Event, Free, InOnePlace, IsTrace, LabelWords, List, Ok, PlacedAt}
use Rattle.trace_laws.proofs.Names.{Queue, Run, Runs, Setting, StateValue, [], accept_by, accepted, ap, arith, begin_by, call_goes, cases_eq, cases_lt}
use Rattle.trace_laws.proofs.Names.{cond, count_by, cpu_at, end_by, ended, entered_by, eq-eqb, false, freed, freed_by, freed_from, freed_if, fresh_cpu}
use Rattle.trace_laws.proofs.Names.{get_or-replicate, get_or-set_other, get_or-set_same, get_or_past, goes, idle_by, if◌then◌else◌, in_batch, in_queue, inl}
use Rattle.trace_laws.proofs.Names.{inr, interrupted, is_bare, is_batch, is_online, is_queue, is_record, is_some, is_sync, joined, length, length-replicate}
use Rattle.trace_laws.proofs.Names.{length-set, may_take, moved, nat_lt, ne_eqb, not, not_over, noted, on_cpu, one_if, opening, order, place_at, place_of_run}
use Rattle.trace_laws.proofs.Names.{place_reason, placed, placed_unless, places_free, pushed, queue_by, refl, runs_locked, send_by, sent, slice_index_or}
use Rattle.trace_laws.proofs.Names.{slice_set, slip_in, slipped_from_batch, slipped_from_queue, subst, sum_by-IsPermutation, sym, take_by, taken, true}
use Rattle.trace_laws.proofs.Names.{unlock_by, unlocked, with_cpu, with_place, ℕ, ◌&&◌, ◌+◌, ◌<◌, ◌==◌, ◌>>=◌, ◌∙◌, ◌∷◌, ◌≡◌, ◌≢◌, ◌≤◌, ◌⊎◌}
use Rattle.trace_model.specs.declared.event.CallEvent.TheVariants as calls
use Rattle.trace_model.specs.declared.event.Event.TheVariants as event
use Rattle.trace_model.specs.declared.reason.Reason.TheVariants as reason
use Rattle.trace_model.specs.{State.slipped_at, declared.call.Place.Place}
use Rattle.trace_laws.proofs.Records.OnePlace.{Placed, async_kept, either_way, fresh_has_none, leaves, one_is, place_changed, placed_keeps, placed_move}
use Rattle.trace_laws.proofs.Records.OnePlace.{placed_shift, placed_still, queue_is, shifted_away}
use Rattle.trace_laws.proofs.Records.RecordMoves.{Begins, Enters, InBatch, InQueue, IsUnlockedAsync, Kind, Nowhere, Running, Shift, begins_begun, begins_loose}
use Rattle.trace_laws.proofs.Records.RecordMoves.{count_cons, ends_ended, leaves_unlocked, place_of, run_kind, shift_pushed, slips_from_batch, slips_from_queue}
use Rattle.trace_laws.proofs.Records.RecordMoves.{stays}
use Rattle.trace_laws.proofs.{Calls.CallEvents.made_on_cpu, Calls.CpuSteps.order_moves}
use Rattle.trace_laws.proofs.{Calls.CpuSteps.over_is, Calls.MadeSteps.both_made, Calls.MadeSteps.failed, Calls.MadeSteps.low_event, Calls.MadeSteps.passed}
use Rattle.trace_laws.proofs.{Calls.OtherEvents.label_keeps_calls, Calls.OtherEvents.stop_keeps_calls, Calls.ShownByTraces.cpus_at_first}
use Rattle.trace_laws.proofs.{Calls.ShownByTraces.fresh_at, Calls.StateSteps.cpu_changed, Calls.StateSteps.cpu_kept}

-- what is unlocked before it begins is ASYNC, on any CPU
pub async_any : (s : StateValue) (cpu : ℕ) → Placed s → IsUnlockedAsync (cpu_at s cpu)
async_any s cpu h1 = search (cases_lt, get_or_past, arith)

placed_end : (s t : StateValue) → s ≡ t → Placed s → Placed t
placed_end s t same p = subst (λ (x : StateValue). Placed x) same p

-- The state after a record was seen free.
record Freed (id : ℕ) (t : StateValue) : Type 0 where
  placed : Placed t
  free : id < 65536 → place_at t id ≡ Free

freed_end : (id : ℕ) (s t : StateValue) → s ≡ t → Freed id s → Freed id t
freed_end id s t same f = subst (λ (x : StateValue). Freed id x) same f

freed_move : (s : StateValue) (actor id : ℕ) (from : Kind) (c : CpuState) → Placed s → Shift id from Nowhere (cpu_at s actor) c → leaves from Nowhere ≡ true
    → Freed id (with_place id Free (with_cpu actor s c))
freed_move s actor id from c p sh e = record {
  placed = placed_move s actor id from Nowhere c p sh e;
  free = λ low. place_changed id Free (with_cpu actor s c) (rw p.places_are low);
}

-- an unlock that is left out is made
freed_slip_queue : (s t : StateValue) (x id : ℕ) (slip : Bool × CpuState) → Placed s → slipped_from_queue id (cpu_at s x) ≡ slip
    → freed_by id (Queue x) (slip_in x s slip) ≡ Ok t → Freed id t
freed_slip_queue s t x id (true, c) p is e =
    freed_end id (with_place id Free (with_cpu x s c)) t (cc) (freed_move s x id InQueue c p (slips_from_queue id (cpu_at s x) c is) refl)
freed_slip_queue s t x id (false, c) p is e = absurd cc

freed_slip_batch : (s t : StateValue) (x id : ℕ) (slip : Bool × CpuState) → Placed s → slipped_from_batch id (cpu_at s x) ≡ slip
    → freed_by id (Batch x) (slip_in x s slip) ≡ Ok t → Freed id t
freed_slip_batch s t x id (true, c) p is e =
    freed_end id (with_place id Free (with_cpu x s c)) t (cc) (freed_move s x id InBatch c p (slips_from_batch id (cpu_at s x) c is) refl)
freed_slip_batch s t x id (false, c) p is e = absurd cc

freed_at_queue : (s t : StateValue) (x id : ℕ) (test : Bool) → Placed s
    → freed_by id (Queue x) (if test then slip_in x s (slipped_from_queue id (cpu_at s x)) else (false, s)) ≡ Ok t → Freed id t
freed_at_queue s t x id true p e = freed_slip_queue s t x id (slipped_from_queue id (cpu_at s x)) p refl e
freed_at_queue s t x id false p e = absurd cc

freed_at_batch : (s t : StateValue) (x id : ℕ) (test : Bool) → Placed s
    → freed_by id (Batch x) (if test then slip_in x s (slipped_from_batch id (cpu_at s x)) else (false, s)) ≡ Ok t → Freed id t
freed_at_batch s t x id true p e = freed_slip_batch s t x id (slipped_from_batch id (cpu_at s x)) p refl e
freed_at_batch s t x id false p e = absurd cc

freed_slipped : (order : Bool) (id : ℕ) (place : Place) (s t : StateValue) → Placed s → freed_by id place (slipped_at order id place s) ≡ Ok t → Freed id t
freed_slipped true id (Queue x) s t p e = freed_at_queue s t x id (nat_lt x 512) p e
freed_slipped false id (Batch x) s t p e = freed_at_batch s t x id (nat_lt x 512) p e
freed_slipped _ id _ s t p e = absurd cc

freed_unlocks : (unlocks order : Bool) (id : ℕ) (place : Place) (s t : StateValue) → Placed s
    → freed_by id place (if unlocks then slipped_at order id place s else (false, s)) ≡ Ok t → Freed id t
freed_unlocks true order id place s t p e = freed_slipped order id place s t p e
freed_unlocks false order id place s t p e = absurd cc

freed_place : (id : ℕ) (place : Place) (s t : StateValue) → place_at s id ≡ place → Placed s → freed_from id place s ≡ Ok t → Freed id t
freed_place id Free s t is p e = freed_end id s t (cc) (record { placed = p; free = λ low. is })
freed_place id place s t is p e = freed_unlocks s.setting.without.unlocks s.setting.without.order id place s t p e

-- a CPU is changed, and no record moves
placed_rests : (s : StateValue) (actor : ℕ) (c : CpuState) → Placed s → Shift 0 Nowhere Nowhere (cpu_at s actor) c → Placed (with_cpu actor s c)
placed_rests s actor c p sh = placed_still s actor 0 c p sh

placed_joined : (call : Call) (to : ℕ) (s : StateValue) → Placed s → (call.id < 65536 → place_at s call.id ≡ Free) → Placed (joined call to s)
placed_joined call to s p free =
    let u = with_place call.id (Queue to) (with_cpu to s (pushed call (cpu_at s to))) in
    let q = placed_shift s to call.id Nowhere InQueue (pushed call (cpu_at s to)) p (shift_pushed call (cpu_at s to) (async_any s to p)) free in
    placed_rests u call.source (noted to (is_bare (cpu_at s to)) (cpu_at u call.source)) q
    (record { queue = λ r. refl; batch = λ r. refl; run = λ r. refl; async = async_any u call.source q })

placed_queue : (source id to : ℕ) (class : Class) (func info : ℕ) (s t : StateValue) → Placed s
    → queue_by (record { source = source; id = id; class = class; func = func; info = info }) to s ≡ Ok t → Placed t
unfolding queue_by
placed_queue source id to class func info s t pl e =
    let call : Call = record { source = source; id = id; class = class; func = func; info = info } in
    let p = passed (is_online s.setting to) (if to == source then Err (reason.IsCaller to) else (freed id s >>= λ m. Ok (joined call to m)))
    (reason.NotOnline to) t e in
    let q = failed (to == source) (freed id s >>= λ m. Ok (joined call to m)) (reason.IsCaller to) t p.1 in
    let m = both_made (freed id s) (λ m. Ok (joined call to m)) t q.1 in
    let f = freed_place id (place_at s id) s m.0 refl pl m.1.0 in
    placed_end (joined call to m.0) t (cc) (placed_joined call to m.0 f.placed f.free)

placed_send : (actor to : ℕ) (s t : StateValue) → Placed s → send_by actor to s ≡ Ok t → Placed t
unfolding send_by
placed_send actor to s t pl e =
    let c = interrupted (cpu_at s to) in
    let m = with_cpu to s c in
    let d = sent to (cpu_at m actor) in
    let p = passed (is_online s.setting to) (Ok (with_cpu actor m d)) (reason.NotOnline to) t e in
    let q = placed_rests s to c pl (record { queue = λ r. refl; batch = λ r. refl; run = λ r. refl; async = async_any s to pl }) in
    placed_end (with_cpu actor m d) t (cc) (placed_rests m actor d q
    (record { queue = λ r. refl; batch = λ r. refl; run = λ r. refl; async = async_any m actor q }))

placed_other : (actor to : ℕ) (s t : StateValue) → Placed s → other_by actor to s ≡ Ok t → Placed t
unfolding other_by
placed_other actor to s t pl e =
    let c = pushed_other (cpu_at s to) in
    let m = with_cpu to s c in
    let d = owing to (is_bare (cpu_at s to)) (cpu_at m actor) in
    let n = with_cpu actor m d in
    let x = if s.setting.without.order then s else n in
    let p = passed (is_online s.setting to) (if to == actor then Err (reason.IsCaller to) else Ok x) (reason.NotOnline to) t e in
    let q = failed (to == actor) (Ok x) (reason.IsCaller to) t p.1 in
    let pm = placed_rests s to c pl (record { queue = λ r. refl; batch = λ r. refl; run = λ r. refl; async = async_any s to pl }) in
    let pn = placed_rests m actor d pm (record { queue = λ r. refl; batch = λ r. refl; run = λ r. refl; async = async_any m actor pm }) in
    placed_end x t (cc) (either_state Placed s.setting.without.order s n pl pn)

placed_accept : (actor : ℕ) (s t : StateValue) → Placed s → accept_by actor s ≡ Ok t → Placed t
placed_accept actor s t pl e =
    let m = made_on_cpu actor s t (accepted (cpu_at s actor)) e in
    placed_end (with_cpu actor s m.0) t m.1.1
    (placed_rests s actor m.0 pl (stays 0 (cpu_at s actor) m.0 (search (passed, both_made, arith)) (async_any s actor pl)))

placed_unlock : (actor id : ℕ) (s t : StateValue) → Placed s → unlock_by actor id s ≡ Ok t → Placed t
unfolding unlock_by
placed_unlock actor id s t pl e =
    let a = cpu_at s actor in
    let made = unlocked id (is_batch (place_at s id) actor) (place_reason id (place_at s id)) a in
    let n = both_made (on_cpu actor s made) (λ x. Ok (with_place id Free x)) t e in
    let m = made_on_cpu actor s n.0 made n.1.0 in
    let l = leaves_unlocked id (is_batch (place_at s id) actor) (place_reason id (place_at s id)) a m.0 m.1.0 in
    let end : with_cpu actor s m.0 ≡ n.0 = m.1.1 in
    let same : with_place id Free (with_cpu actor s m.0) ≡ t = ap (λ x. with_place id Free x) end ∙ cc in
    placed_end (with_place id Free (with_cpu actor s m.0)) t same (placed_move s actor id l.from Nowhere m.0 pl l.shift
    (elim l.is_from [ inl x ↦ rw x refl | inr x ↦ rw x refl ]))

pub entered_begins : (order : Bool) (actor : ℕ) (id func info : ℕ) (place : Place) (s : StateValue) (c : CpuState) → IsUnlockedAsync (cpu_at s actor)
    → entered_by order actor (record { id = id; func = func; info = info }) place s ≡ Ok c → Begins id (cpu_at s actor) c
entered_begins true actor id func info place s c async e = begins_loose id func info (place_reason id place) (cpu_at s actor) c async e
entered_begins false actor id func info place s c async e =
    begins_begun id func info (is_batch place actor) (place_reason id place) (not s.setting.without.unlocks) (cpu_at s actor) c async e

run_place : (class : Class) (actor : ℕ) → (if is_sync class then Run actor else Free) ≡ place_of (run_kind class) actor
run_place class actor = search arith

pub leaves_run : (from : Kind) (class : Class) → from ≡ InBatch ⊎ from ≡ InQueue → leaves from (run_kind class) ≡ true
leaves_run from class which = search arith

-- a CPU that moves a record is one that there can be
pub mover_below : (s : StateValue) (actor id : ℕ) (from to : Kind) (c : CpuState) → Placed s → Shift id from to (cpu_at s actor) c → leaves from to ≡ true →
    actor < 512
mover_below s actor id from to c p sh e = elim (cases_lt actor 512) [
  | inl below ↦ below
  | inr past ↦ let end : length s.cpus ≤ actor = rw p.cpus_are past in
      let fresh : cpu_at s actor ≡ fresh_cpu = get_or_past s.cpus actor fresh_cpu end in
      absurd (fresh_has_none from to id c (rw fresh at sh) e)
]

placed_enters : (actor id : ℕ) (s : StateValue) (c : CpuState) → Placed s → Enters id (cpu_at s actor) c
    → Placed (placed_unless false actor id (with_cpu actor s c))
placed_enters actor id s c pl en =
    let l = leaves_run en.from en.class en.is_from in
    let below = mover_below s actor id en.from (run_kind en.class) c pl en.shift l in
    let changed : cpu_at (with_cpu actor s c) actor ≡ c = cpu_changed actor s c (rw pl.cpus_are below) in
    let place : place_of_run actor (cpu_at (with_cpu actor s c) actor) ≡ place_of (run_kind en.class) actor =
    ap (λ x. place_of_run actor x) changed ∙ ap (λ (b : Bool). if b then Run actor else Free) en.runs ∙ run_place en.class actor in
    placed_end (with_place id (place_of (run_kind en.class) actor) (with_cpu actor s c)) (placed_unless false actor id (with_cpu actor s c))
    (ap (λ x. with_place id x (with_cpu actor s c)) (sym place)) (placed_move s actor id en.from (run_kind en.class) c pl en.shift l)

placed_begins : (actor id : ℕ) (s : StateValue) (c : CpuState) (unless : Bool) → Placed s → (unless ≡ true → Shift id Nowhere Nowhere (cpu_at s actor) c)
    → (unless ≡ false → Enters id (cpu_at s actor) c) → Placed (placed_unless unless actor id (with_cpu actor s c))
placed_begins actor id s c true pl still enters = placed_still s actor id c pl (still refl)
placed_begins actor id s c false pl still enters = placed_enters actor id s c pl (enters refl)

placed_begin : (actor id func info : ℕ) (s t : StateValue) → Placed s → begin_by actor (record { id = id; func = func; info = info }) s ≡ Ok t → Placed t
unfolding begin_by
placed_begin actor id func info s t pl e =
    let place = place_at s id in
    let unless = is_some (cpu_at s actor).current in
    let made = entered_by s.setting.without.order actor (record { id = id; func = func; info = info }) place s in
    let n = both_made (on_cpu actor s made) (λ x. Ok (placed_unless unless actor id x)) t e in
    let m = made_on_cpu actor s n.0 made n.1.0 in
    let b = entered_begins s.setting.without.order actor id func info place s m.0 (async_any s actor pl) m.1.0 in
    let end : with_cpu actor s m.0 ≡ n.0 = m.1.1 in
    let same : placed_unless unless actor id (with_cpu actor s m.0) ≡ t = ap (λ x. placed_unless unless actor id x) end ∙ cc in
    placed_end (placed_unless unless actor id (with_cpu actor s m.0)) t same
    (placed_begins actor id s m.0 unless pl (λ x. b.how.0 (sym b.unless_is ∙ x)) (λ x. b.how.1 (sym b.unless_is ∙ x)))

placed_ends : (actor id : ℕ) (s : StateValue) (c : CpuState) (frees : Bool) → Placed s → (frees ≡ true → Shift id Running Nowhere (cpu_at s actor) c)
    → (frees ≡ false → Shift id Nowhere Nowhere (cpu_at s actor) c) → Placed (freed_if frees id (with_cpu actor s c))
placed_ends actor id s c true pl moves still = placed_move s actor id Running Nowhere c pl (moves refl) refl
placed_ends actor id s c false pl moves still = placed_still s actor id c pl (still refl)

placed_ended : (actor id : ℕ) (s t : StateValue) → Placed s → end_by actor id s ≡ Ok t → Placed t
unfolding end_by
placed_ended actor id s t pl e =
    let a = cpu_at s actor in
    let unlocks = s.setting.without.unlocks in
    let made = ended id (not unlocks) a in
    let test = runs_locked a && unlocks in
    let n = both_made (on_cpu actor s made) (λ x. Ok (freed_if test id x)) t e in
    let m = made_on_cpu actor s n.0 made n.1.0 in
    let d = ends_ended (not unlocks) id a m.0 m.1.0 in
    let is : test ≡ d.frees = sym (search arith) ∙ d.frees_is in
    let end : with_cpu actor s m.0 ≡ n.0 = m.1.1 in
    let same : freed_if test id (with_cpu actor s m.0) ≡ t = ap (λ x. freed_if test id x) end ∙ cc in
    placed_end (freed_if test id (with_cpu actor s m.0)) t same
    (placed_ends actor id s m.0 test pl (λ x. d.how.0 (sym is ∙ x)) (λ x. d.how.1 (sym is ∙ x)))

-- Records that are put at a place: this one too, or it is where it was.
pub record PutAt (place : Place) (queue : List Call) (places : List Place) (r : ℕ) : Type 0 where
  pub how : ((count_by (is_record r) queue ≡ 0) × (slice_index_or (placed place queue places) r Free ≡ slice_index_or places r Free))
      ⊎ ((1 ≤ count_by (is_record r) queue) × (slice_index_or (placed place queue places) r Free ≡ place))

put_same : (place : Place) (x : Call) (xs : List Call) (places : List Place) (r : ℕ) → r < length places → x.id ≡ r →
    PutAt place xs (slice_set places x.id place) r
    → PutAt place (x ∷ xs) places r
put_same place x xs places r below same put =
    let is : (x.id == r) ≡ true = eq-eqb x.id r same in
    let c : count_by (is_record r) (x ∷ xs) ≡ cond (x.id == r) 1 0 + count_by (is_record r) xs = count_cons (is_record r) x xs in
    let one : count_by (is_record r) (x ∷ xs) ≡ 1 + count_by (is_record r) xs = c ∙ ap (λ (b : Bool). cond b 1 0 + count_by (is_record r) xs) is in
    let here : slice_index_or (slice_set places x.id place) r Free ≡ place = rw same (get_or-set_same places r place Free below) in
    record { how = inr (omega arith, elim put.how [ inl h ↦ h.1 ∙ here | inr h ↦ h.1 ]) }

put_other : (place : Place) (x : Call) (xs : List Call) (places : List Place) (r : ℕ) → (x.id ≡ r → ⊥) → PutAt place xs (slice_set places x.id place) r
    → PutAt place (x ∷ xs) places r
put_other place x xs places r h1 h2 = search (ne_eqb, count_by, count_cons, get_or-set_other, arith)

pub put_at : (place : Place) (queue : List Call) (places : List Place) (r : ℕ) → r < length places → PutAt place queue places r
put_at place [] places r below = record { how = inl (refl, refl) }
put_at place (x ∷ xs) places r below =
    let rest = put_at place xs (slice_set places x.id place) r (rw (length-set places x.id place) below) in
    elim (cases_eq x.id r) [
      | inl same ↦ put_same place x xs places r below same rest
      | inr ne ↦ put_other place x xs places r ne rest
    ]

length-placed : (place : Place) (queue : List Call) (places : List Place) → length (placed place queue places) ≡ length places
length-placed place [] places = refl
length-placed place (x ∷ xs) places = length-placed place xs (slice_set places x.id place) ∙ length-set places x.id place

-- how often a record is in a batch, and in the queue that it was
order_count : (r : ℕ) (queue : List Call) → count_by (is_record r) (order queue) ≡ count_by (is_record r) queue
order_count r queue = sum_by-IsPermutation (λ x. cond (is_record r x) 1 0) queue (order queue) (order_moves queue)

-- a record that is not in the queue stays where it is
taken_other : (place : Place) (r cpu : ℕ) (a : CpuState) → a.batch ≡ [] → in_queue r a ≡ 0 → PlacedAt place r cpu a → PlacedAt place r cpu (taken a)
taken_other place r cpu a empty none p =
    let b : in_batch r a ≡ 0 = ap (λ xs. count_by (is_record r) xs) empty in
    record {
      queue = sym none ∙ p.queue;
      batch = order_count r a.queue ∙ none ∙ sym b ∙ p.batch;
      run = p.run;
    }

-- one that is in it is in the batch
taken_here : (r cpu : ℕ) (a : CpuState) → PlacedAt (Queue cpu) r cpu a → PlacedAt (Batch cpu) r cpu (taken a)
taken_here r cpu a h1 = search (order_count, arith)

pub one_count : (n : ℕ) (test : Bool) → 1 ≤ n → n ≡ one_if test → 1 ≤ one_if test
one_count n test h e = omega arith

-- a CPU that has a call is one that there can be
pub has_below : (s : StateValue) (actor r : ℕ) → Placed s → 1 ≤ in_queue r (cpu_at s actor) → actor < 512
has_below s actor r h1 h2 = search (cases_lt, get_or_past, arith)

taken_each : (s : StateValue) (actor : ℕ) → Placed s → not_over (cpu_at s actor) ≡ Ok tt → (r : ℕ) → r < 65536 → (cpu : ℕ) → cpu < 512
    → let t = with_cpu actor (moved actor s) (taken (cpu_at s actor)) in cpu ≡ actor ⊎ cpu ≢ actor → PlacedAt (place_at t r) r cpu (cpu_at t cpu)
taken_each s actor p over r low cpu below which =
    let t = with_cpu actor (moved actor s) (taken (cpu_at s actor)) in
    let o = over_is (cpu_at s actor).current (cpu_at s actor).batch over in
    elim (put_at (Batch actor) (cpu_at s actor).queue s.places r (rw p.places_are low)).how [
      | inl h ↦
          (let same : place_at t r ≡ place_at s r = h.1 in
          elim which [
            | inl here ↦
                (let changed : cpu_at t actor ≡ taken (cpu_at s actor) = cpu_changed actor (moved actor s) (taken (cpu_at s actor)) (rw
                (p.cpus_are, ← here) below) in
                let old : PlacedAt (place_at s r) r cpu (cpu_at s cpu) = p.each r low cpu below in
                rw (same, here, changed) (taken_other (place_at s r) r actor (cpu_at s actor) o.1 h.0 (rw here at old)))
            | inr ne ↦ (let kept : cpu_at t cpu ≡ cpu_at s cpu = cpu_kept cpu actor (moved actor s) (taken (cpu_at s actor)) ne in rw (same, kept)
                (p.each r low cpu below))
          ])
      | inr h ↦
          (let same : place_at t r ≡ Batch actor = h.1 in
          let was : place_at s r ≡ Queue actor =
          queue_is (place_at s r) actor (one_is (is_queue (place_at s r) actor) (one_count (in_queue r (cpu_at s actor)) (is_queue (place_at s r) actor) h.0
          (p.each r low actor (has_below s actor r p h.0)).queue)) in
          let old : PlacedAt (place_at s r) r cpu (cpu_at s cpu) = p.each r low cpu below in
          elim which [
            | inl here ↦
                (let changed : cpu_at t actor ≡ taken (cpu_at s actor) = cpu_changed actor (moved actor s) (taken (cpu_at s actor)) (rw
                (p.cpus_are, ← here) below) in
                rw (same, here, changed) (taken_here r actor (cpu_at s actor) (rw (was, here) at old)))
            | inr ne ↦
                (let kept : cpu_at t cpu ≡ cpu_at s cpu = cpu_kept cpu actor (moved actor s) (taken (cpu_at s actor)) ne in
                rw (same, kept) (shifted_away r InQueue InBatch cpu actor (cpu_at s cpu) ne (rw was at old)))
          ])
    ]

placed_taken : (s : StateValue) (actor : ℕ) → Placed s → not_over (cpu_at s actor) ≡ Ok tt → Placed (with_cpu actor (moved actor s) (taken (cpu_at s actor)))
placed_taken s actor p over = record {
  cpus_are = length-set s.cpus actor (taken (cpu_at s actor)) ∙ p.cpus_are;
  places_are = length-placed (Batch actor) (cpu_at s actor).queue s.places ∙ p.places_are;
  each = λ r low cpu below. taken_each s actor p over r low cpu below (either_way cpu actor);
  async = λ cpu below. async_kept s actor (taken (cpu_at s actor)) p (async_any s actor p) cpu below (either_way cpu actor);
}

placed_take : (actor : ℕ) (s t : StateValue) → Placed s → take_by actor s ≡ Ok t → Placed t
unfolding take_by
placed_take actor s t pl e =
    let x = with_cpu actor (moved actor s) (taken (cpu_at s actor)) in
    let m = both_made (may_take (not s.setting.without.interrupts) (cpu_at s actor)) (λ u. Ok x) t e in
    placed_end x t (cc) (placed_taken s actor pl (search (passed, both_made, arith)))

placed_call : (actor : ℕ) (e : CallEvent) (s t : StateValue) → Placed s → goes actor (event.Call e) s ≡ Ok t → Placed t
unfolding call_goes
placed_call actor (calls.Queue id to class func info) s t p e = placed_queue actor id to class func info s t p e
placed_call actor (calls.Free id) s t p e = (freed_place id (place_at s id) s t refl p e).placed
placed_call actor (calls.QueueOther to node) s t p e = placed_other actor to s t p e
placed_call actor (calls.Send to) s t p e = placed_send actor to s t p e
placed_call actor calls.Accept s t p e = placed_accept actor s t p e
placed_call actor calls.Idle s t p e = let m = both_made (idle_by actor s) (λ u. Ok s) t e in placed_end s t (cc) p
placed_call actor calls.Take s t p e = placed_take actor s t p e
placed_call actor (calls.Unlock id) s t p e = placed_unlock actor id s t p e
placed_call actor (calls.Begin id func info) s t p e = placed_begin actor id func info s t p e
placed_call actor (calls.End id) s t p e = placed_ended actor id s t p e

-- each event leaves each record in one place
pub placed_goes : (actor : ℕ) (e : Event) (s t : StateValue) → Placed s → goes actor e s ≡ Ok t → Placed t
placed_goes actor (event.Call e) s t p g = placed_call actor e s t p g
placed_goes actor (event.Stop e) s t p g = placed_keeps s t p (stop_keeps_calls actor e s t g)
placed_goes actor (event.Label e) s t p g = placed_keeps s t p (label_keeps_calls actor e s t (low_event actor _ t g).1)

-- and so does a run
pub placed_runs : (es : List (ℕ × Event)) (s t : StateValue) → Placed s → Runs s es t → Placed t
placed_runs [] s t p run = placed_end s t (sym run) p
placed_runs (e ∷ es) s t p (m, (g, run)) = placed_runs es m t (placed_goes e.0 e.1 s m p g) run

places_long : (n : ℕ) → length (places_free n) ≡ n
unfolding places_free
places_long n = length-replicate n Free

places_are_free : (n r : ℕ) → r < n → slice_index_or (places_free n) r Free ≡ Free
unfolding places_free
places_are_free n r below = get_or-replicate n r Free Free below

opening_places : (u : Setting) (words : LabelWords) → (opening u words).places ≡ places_free 65536
unfolding opening
opening_places u words = refl

pub free_at_first : (u : Setting) (words : LabelWords) (r : ℕ) → r < 65536 → place_at (opening u words) r ≡ Free
free_at_first u words r low = ap (λ (xs : List Place). slice_index_or xs r Free) (opening_places u words) ∙ places_are_free 65536 r low

-- before the first event each record is free
pub placed_at_first : (u : Setting) (words : LabelWords) → Placed (opening u words)
placed_at_first u words = record {
  cpus_are = cpus_at_first u words;
  places_are = ap length (opening_places u words) ∙ places_long 65536;
  each = search (free_at_first, fresh_at, arith);
  async = λ cpu below. let fresh : cpu_at (opening u words) cpu ≡ fresh_cpu = fresh_at u words cpu in rw fresh refl;
}

pub in_one_place : (u : Setting) (words : LabelWords) (es : List (ℕ × Event)) (t : StateValue) → IsTrace u words es t → InOnePlace t
in_one_place u words es t run = (placed_runs es (opening u words) t (placed_at_first u words) run).each
