-- A queue that is not empty is not lost.
use Rattle.trace_laws.proofs.Names.{AllByRecursion, Batch, Bool, Call, CallEvent, Class, CpuState, Current, Event, Free, LabelWords, List, Ok, Option}
use Rattle.trace_laws.proofs.Names.{Progress, Queue, Reason, Result, Runs as RunsOf, Setting, Some, StateValue, Unlocked, [], accept_by, accepted, ap, arith}
use Rattle.trace_laws.proofs.Names.{at_call, begin_by, begun, begun_any, begun_at, begun_loose, call_goes, cases_eq, cases_lt, cpu_at, end_by, ended}
use Rattle.trace_laws.proofs.Names.{entered_by, eqb-false, eqb-true, false, freed, freed_by, freed_from, freed_if, get_or-set_other, get_or-set_same}
use Rattle.trace_laws.proofs.Names.{get_or_past, goes, idle_by, if◌then◌else◌, inl, inr, interrupted, is_async, is_bare, is_batch, is_of, is_online, is_some}
use Rattle.trace_laws.proofs.Names.{joined, length, length-replicate, length-set, may_take, moved, nat_lt, not, noted, on_cpu, opening, other_by, owing}
use Rattle.trace_laws.proofs.Names.{place_at, place_reason, placed_unless, pushed, pushed_other, queue_by, refl, remove, runs_locked, send_by, sent}
use Rattle.trace_laws.proofs.Names.{slice_index_or, slip_in, slipped, slipped_any, slipped_from_batch, slipped_from_queue, subst, suc, sym, take_by, taken}
use Rattle.trace_laws.proofs.Names.{true, unlock_by, unlocked, unlocked_running, with_cpu, with_place, zero, ℕ, ◌&&◌, ◌++◌, ◌<◌, ◌==◌, ◌>>=◌, ◌||◌, ◌∙◌, ◌∷◌}
use Rattle.trace_laws.proofs.Names.{◌≡◌, ◌≢◌}
use Rattle.trace_model.specs.declared.call.Place.{Place}
use Rattle.trace_model.specs.declared.call.Progress.TheVariants.{Runs}
use Rattle.trace_model.specs.declared.event.CallEvent.TheVariants as calls
use Rattle.trace_model.specs.declared.event.Event.TheVariants as event
use Rattle.trace_model.specs.declared.reason.Reason.TheVariants as reason
use Rattle.trace_model.specs.Calls.{other_joined}
use Rattle.trace_model.specs.Cpu.{is_empty, owed_if}
use Rattle.trace_model.specs.Ending.{has_nodes, owes}
use Rattle.trace_model.specs.State.{slipped_at as slipped_state}
use Rattle.trace_laws.proofs.Calls.CallEvents.{made_on_cpu}
use Rattle.trace_laws.proofs.Calls.CpuSteps.{either}
use Rattle.trace_laws.proofs.Calls.MadeSteps.{both_made, failed, low_event, passed}
use Rattle.trace_laws.proofs.Calls.OtherEvents.{KeepsCalls, label_keeps_calls, stop_keeps_calls}
use Rattle.trace_laws.proofs.Calls.ShownByTraces.{cpus_at_first, fresh_at}
use Rattle.trace_laws.proofs.Calls.StateSteps.{cpu_changed, cpu_kept}
use Rattle.trace_laws.proofs.Calls.Targets.{joined_so}
use Rattle.trace_laws.proofs.Stops.AtRun.{setting_at_first}
use Rattle.trace_laws.proofs.Calls.CallEvents.{either_state}
use Rattle.trace_laws.proofs.Calls.ShownByRuns.{event_shows}
use Rattle.trace_laws.specs.LostQueues.{InterruptIsTold, IsSeenTo, QueuesAreNotLost, accepted_from, accepted_next, filled_from, filled_next}
use Rattle.trace_laws.specs.LostQueues.{pending_from, pending_next}
use Rattle.trace_laws.specs.Traces.{OfEachTrace}

-- A CPU's queue is empty as before, or where the order is left out has lost a call. Its interrupts, and those that it owes, are as before.
pub record Holds (order : Bool) (a b : CpuState) : Type 0 where
  pub nodes : order ≡ false → has_nodes b ≡ has_nodes a
  pub fewer : has_nodes b ≡ true → has_nodes a ≡ true
  pub pending : b.pending ≡ a.pending
  pub accepted : b.accepted ≡ a.accepted
  pub owed : b.owes ≡ a.owes

holds_end : (order : Bool) (a b c : CpuState) → b ≡ c → Holds order a b → Holds order a c
holds_end order a b c same h = subst (λ (x : CpuState). Holds order a x) same h

holds_by : (order : Bool) (a b : CpuState) → b.queue ≡ a.queue → b.others ≡ a.others → b.pending ≡ a.pending → b.accepted ≡ a.accepted → b.owes ≡ a.owes
    → Holds order a b
holds_by order a b queue others pending accepted owed =
    let same : has_nodes b ≡ has_nodes a = rw (queue, others) refl in
    record { nodes = λ o. same; fewer = λ h. sym same ∙ h; pending = pending; accepted = accepted; owed = owed }

holds_same : (order : Bool) (a : CpuState) → Holds order a a
holds_same order a = holds_by order a a refl refl refl refl refl

-- a call leaves the queue, where the order is left out
fewer_nodes : (others : Bool) (queue : List Call) (n : ℕ) → not (not others && is_empty (remove queue n)) ≡ true → not (not others && is_empty queue) ≡ true
fewer_nodes others [] zero h = h
fewer_nodes others [] (suc n) h = h
fewer_nodes true (x ∷ xs) n h = refl
fewer_nodes false (x ∷ xs) n h = refl

holds_fewer : (a : CpuState) (n : ℕ) (current : Option Current) → Holds true a (record a { queue = remove a.queue n; current = current })
holds_fewer a n current = record { nodes = λ o. absurd cc; fewer = fewer_nodes a.others a.queue n; pending = refl; accepted = refl; owed = refl }

-- a record is unlocked
holds_running : (order : Bool) (progress : Progress) (class : Class) (r : ℕ) (elsewhere : Reason) (a b : CpuState)
    → unlocked_running progress class r elsewhere a ≡ Ok b → Holds order a b
holds_running order progress class r elsewhere a b e = search (holds_end, holds_by, arith)

holds_unlocked : (order : Bool) (r : ℕ) (here : Bool) (elsewhere : Reason) (a b : CpuState) → unlocked r here elsewhere a ≡ Ok b → Holds order a b
holds_unlocked order r here elsewhere a b e = search (passed, holds_running, both_made, failed, holds_end, holds_by, arith)

-- a function is entered
holds_begun_at : (order : Bool) (progress : Progress) (id func info : ℕ) (call : Call) (a b : CpuState)
    → begun_at progress (record { id = id; func = func; info = info }) call a ≡ Ok b → Holds order a b
holds_begun_at order progress id func info call a b e = search (passed, both_made, holds_end, holds_by, arith)

holds_begun : (order : Bool) (id func info : ℕ) (here : Bool) (elsewhere : Reason) (unlocks : Bool) (a b : CpuState)
    → begun (record { id = id; func = func; info = info }) here elsewhere unlocks a ≡ Ok b → Holds order a b
holds_begun order id func info here elsewhere unlocks a b e = search (passed, holds_begun_at, both_made, failed, holds_end, holds_by, arith)

holds_any : (id func info : ℕ) (elsewhere : Reason) (a b : CpuState) (at : Option ℕ) (found : Option Call)
    → begun_any (record { id = id; func = func; info = info }) a at found elsewhere ≡ Ok b → Holds true a b
holds_any id func info elsewhere a b (Some n) (Some call) e =
    let c = record a { queue = remove a.queue n; current = at_call Runs call } in
    let m = both_made (is_of (record { id = id; func = func; info = info }) call) (λ u. Ok c) b e in
    holds_end true a c b (cc) (holds_fewer a n (at_call Runs call))
holds_any id func info elsewhere a b _ _ e = absurd cc

holds_loose : (id func info : ℕ) (elsewhere : Reason) (a b : CpuState) → begun_loose (record { id = id; func = func; info = info }) elsewhere a ≡ Ok b
    → Holds true a b
holds_loose id func info elsewhere a b e = search (passed, holds_begun_at, holds_any, arith)

holds_entered : (order : Bool) (actor id func info : ℕ) (place : Place) (s : StateValue) (c : CpuState)
    → entered_by order actor (record { id = id; func = func; info = info }) place s ≡ Ok c → Holds order (cpu_at s actor) c
holds_entered true actor id func info place s c e = holds_loose id func info (place_reason id place) (cpu_at s actor) c e
holds_entered false actor id func info place s c e =
    holds_begun false id func info (is_batch place actor) (place_reason id place) (not s.setting.without.unlocks) (cpu_at s actor) c e

-- a function has returned
holds_ended : (order : Bool) (r : ℕ) (unlocks : Bool) (a b : CpuState) → ended r unlocks a ≡ Ok b → Holds order a b
holds_ended order r unlocks a b e = search (passed, holds_end, holds_by, arith)

-- an unlock that is left out is made
holds_from_batch : (order : Bool) (r : ℕ) (a : CpuState) → Holds order a (slipped_from_batch r a).1
holds_from_batch order r a = search (either, holds_by, holds_same, arith)

holds_slipped_any : (a : CpuState) (at : Option ℕ) (found : Option Call) → Holds true a (slipped_any a at found).1
holds_slipped_any a (Some n) (Some call) =
    either (λ b. Holds true a b) (is_async call.class) (true, record a { queue = remove a.queue n; current = at_call Unlocked call }) (false, a)
    (holds_fewer a n (at_call Unlocked call)) (holds_same true a)
holds_slipped_any a _ _ = holds_same true a

holds_from_queue : (r : ℕ) (a : CpuState) → Holds true a (slipped_from_queue r a).1
holds_from_queue r a = search (holds_slipped_any, holds_same, arith)

-- Each CPU's queue, interrupts and those that it owes are so.
pub record Keeps (order : Bool) (s t : StateValue) : Type 0 where
  pub setting_is : t.setting ≡ s.setting
  pub cpus_are : length t.cpus ≡ length s.cpus
  pub holds : (cpu : ℕ) → cpu < length s.cpus → Holds order (cpu_at s cpu) (cpu_at t cpu)

keeps_end : (order : Bool) (s t u : StateValue) → t ≡ u → Keeps order s t → Keeps order s u
keeps_end order s t u same k = subst (λ (x : StateValue). Keeps order s x) same k

keeps_cpu : (order : Bool) (actor : ℕ) (s : StateValue) (c : CpuState) → Holds order (cpu_at s actor) c → Keeps order s (with_cpu actor s c)
keeps_cpu order actor s c h = search (length-set, cases_eq, cpu_changed, cpu_kept, holds_same, arith)

keeps_same : (order : Bool) (s t : StateValue) → t.setting ≡ s.setting → t.cpus ≡ s.cpus → Keeps order s t
keeps_same order s t h1 h2 = search (holds_same, arith)

pub keeps_refl : (order : Bool) (s : StateValue) → Keeps order s s
keeps_refl order s = keeps_same order s s refl refl

holds_then : (order : Bool) (a b c : CpuState) → Holds order a b → Holds order b c → Holds order a c
holds_then order a b c h1 h2 = search arith

keeps_then : (order : Bool) (s m t : StateValue) → Keeps order s m → Keeps order m t → Keeps order s t
keeps_then order s m t p q = search (holds_then, arith)

-- a record is seen free
either_keeps : (order : Bool) (s : StateValue) (test : Bool) (x : Bool × StateValue) → Keeps order s x.1 → let z : Bool ×
    StateValue = if test then x else (false, s) in Keeps order s z.1
either_keeps order s true x k = k
either_keeps order s false x k = keeps_refl order s

keeps_slipped_at : (order : Bool) (id : ℕ) (place : Place) (s : StateValue) → Keeps order s (slipped_state order id place s).1
keeps_slipped_at true id (Queue x) s =
    either_keeps true s (nat_lt x 512) (slip_in x s (slipped_from_queue id (cpu_at s x)))
    (keeps_cpu true x s (slipped_from_queue id (cpu_at s x)).1 (holds_from_queue id (cpu_at s x)))
keeps_slipped_at false id (Batch x) s =
    either_keeps false s (nat_lt x 512) (slip_in x s (slipped_from_batch id (cpu_at s x)))
    (keeps_cpu false x s (slipped_from_batch id (cpu_at s x)).1 (holds_from_batch false id (cpu_at s x)))
keeps_slipped_at order id _ s = keeps_refl order s

keeps_slipped : (id : ℕ) (place : Place) (s : StateValue) → Keeps s.setting.without.order s (slipped id place s).1
keeps_slipped id place s = search (either_keeps, keeps_slipped_at, arith)

keeps_freed_by : (order : Bool) (id : ℕ) (place : Place) (s t : StateValue) (slip : Bool × StateValue) → Keeps order s slip.1 → freed_by id place slip ≡ Ok t
    → Keeps order s t
keeps_freed_by order id place s t slip k e = search (keeps_end, keeps_then, keeps_same, arith)

keeps_freed_from : (id : ℕ) (place : Place) (s t : StateValue) → freed_from id place s ≡ Ok t → Keeps s.setting.without.order s t
keeps_freed_from id place s t h1 = search (keeps_end, keeps_refl, keeps_freed_by, keeps_slipped, arith)

pub keeps_freed : (id : ℕ) (s t : StateValue) → freed id s ≡ Ok t → Keeps s.setting.without.order s t
keeps_freed id s t e = search (keeps_freed_from, arith)

-- a CPU handles what it has taken
keeps_made : (order : Bool) (actor : ℕ) (s t : StateValue) (made : Result CpuState Reason) → on_cpu actor s made ≡ Ok t → ((c : CpuState) → made ≡ Ok c →
    Holds order (cpu_at s actor) c) → Keeps order s t
keeps_made order actor s t made e holds =
    let m = made_on_cpu actor s t made e in keeps_end order s (with_cpu actor s m.0) t m.1.1 (keeps_cpu order actor s m.0 (holds m.0 m.1.0))

pub keeps_unlock : (order : Bool) (actor id : ℕ) (s t : StateValue) → unlock_by actor id s ≡ Ok t → Keeps order s t
unfolding unlock_by
keeps_unlock order actor id s t e =
    let here = is_batch (place_at s id) actor in
    let elsewhere = place_reason id (place_at s id) in
    let made = unlocked id here elsewhere (cpu_at s actor) in
    let n = both_made (on_cpu actor s made) (λ x. Ok (with_place id Free x)) t e in
    keeps_then order s n.0 t (keeps_made order actor s n.0 made n.1.0 (λ c f. holds_unlocked order id here elsewhere (cpu_at s actor) c f))
    (keeps_end order n.0 (with_place id Free n.0) t (cc) (keeps_same order n.0 (with_place id Free n.0) refl refl))

keeps_placed : (order unless : Bool) (actor id : ℕ) (s : StateValue) → Keeps order s (placed_unless unless actor id s)
keeps_placed order unless actor id s = search (keeps_same, keeps_refl, arith)

pub keeps_begin : (actor id func info : ℕ) (s t : StateValue) → begin_by actor (record { id = id; func = func; info = info }) s ≡ Ok t
    → Keeps s.setting.without.order s t
unfolding begin_by
keeps_begin actor id func info s t e =
    let order = s.setting.without.order in
    let unless = is_some (cpu_at s actor).current in
    let made = entered_by order actor (record { id = id; func = func; info = info }) (place_at s id) s in
    let n = both_made (on_cpu actor s made) (λ x. Ok (placed_unless unless actor id x)) t e in
    keeps_then order s n.0 t (keeps_made order actor s n.0 made n.1.0 (λ c f. holds_entered order actor id func info (place_at s id) s c f))
    (keeps_end order n.0 (placed_unless unless actor id n.0) t (cc) (keeps_placed order unless actor id n.0))

keeps_freed_if : (order test : Bool) (id : ℕ) (s : StateValue) → Keeps order s (freed_if test id s)
keeps_freed_if order test id s = search (keeps_same, keeps_refl, arith)

pub keeps_ended : (order : Bool) (actor id : ℕ) (s t : StateValue) → end_by actor id s ≡ Ok t → Keeps order s t
unfolding end_by
keeps_ended order actor id s t e =
    let unlocks = not s.setting.without.unlocks in
    let made = ended id unlocks (cpu_at s actor) in
    let test = runs_locked (cpu_at s actor) && s.setting.without.unlocks in
    let n = both_made (on_cpu actor s made) (λ x. Ok (freed_if test id x)) t e in
    keeps_then order s n.0 t (keeps_made order actor s n.0 made n.1.0 (λ c f. holds_ended order id unlocks (cpu_at s actor) c f))
    (keeps_end order n.0 (freed_if test id n.0) t (cc) (keeps_freed_if order test id n.0))

-- an event of stops or of labels
pub keeps_kept : (order : Bool) (s t : StateValue) → KeepsCalls s t → Keeps order s t
keeps_kept order s t k = search (holds_by, arith)

-- As much is in a CPU's queue as before, and what sees to it does so still.
record SeesStill (cpu : ℕ) (s t : StateValue) : Type 0 where
  nodes : has_nodes (cpu_at t cpu) ≡ has_nodes (cpu_at s cpu)
  accepted : (cpu_at s cpu).accepted ≡ true → (cpu_at t cpu).accepted ≡ true
  pending : (cpu_at s cpu).pending ≡ true → (cpu_at t cpu).pending ≡ true
  owed : (source : ℕ) → source < 512 → owes s cpu source ≡ true → owes t cpu source ≡ true

seen_still : (cpu : ℕ) (s t : StateValue) → SeesStill cpu s t → IsSeenTo s cpu → IsSeenTo t cpu
seen_still cpu s t sees seen = search arith

sees_then : (cpu : ℕ) (s m t : StateValue) → SeesStill cpu s m → SeesStill cpu m t → SeesStill cpu s t
sees_then cpu s m t p q = search arith

sees_cpu : (cpu x : ℕ) (s : StateValue) (c : CpuState) → length s.cpus ≡ 512 → cpu < 512 → (cpu ≡ x → has_nodes c ≡ has_nodes (cpu_at s x))
    → (cpu ≡ x → (cpu_at s x).accepted ≡ true → c.accepted ≡ true) → (cpu ≡ x → (cpu_at s x).pending ≡ true → c.pending ≡ true)
    → (slice_index_or (cpu_at s x).owes cpu false ≡ true → slice_index_or c.owes cpu false ≡ true) → SeesStill cpu s (with_cpu x s c)
sees_cpu cpu x s c long below nodes accepted pending owed = search (cases_eq, cpu_changed, cpu_kept, arith)

-- The order of queues is told or not, and there are 512 CPUs, each of which keeps to which of the 512 it owes an interrupt.
record Sized (order : Bool) (s : StateValue) : Type 0 where
  order_is : s.setting.without.order ≡ order
  cpus_are : length s.cpus ≡ 512
  owes_are : (x : ℕ) → x < 512 → length (cpu_at s x).owes ≡ 512

sized_cpu : (order : Bool) (x : ℕ) (s : StateValue) (c : CpuState) → Sized order s → length c.owes ≡ length (cpu_at s x).owes → Sized order (with_cpu x s c)
sized_cpu order x s c sized long = search (length-set, cases_eq, cpu_changed, cpu_kept, arith)

-- The queue of a CPU is not lost in this state, where this tells whether it is filled.
record Kept (order filled : Bool) (cpu : ℕ) (s : StateValue) : Type 0 where
  sized : Sized order s
  nodes : order ≡ false → has_nodes (cpu_at s cpu) ≡ filled
  seen_to : has_nodes (cpu_at s cpu) ≡ true → IsSeenTo s cpu

kept_end : (order filled : Bool) (cpu : ℕ) (s t : StateValue) → s ≡ t → Kept order filled cpu s → Kept order filled cpu t
kept_end order filled cpu s t same k = subst (λ (x : StateValue). Kept order filled cpu x) same k

kept_still : (order filled : Bool) (cpu : ℕ) (s t : StateValue) → Kept order filled cpu s → Sized order t → SeesStill cpu s t → Kept order filled cpu t
kept_still order filled cpu s t k sized sees = search (seen_still, arith)

-- it is not, where nothing joins it and it is not taken
kept_quiet : (order filled : Bool) (cpu : ℕ) (s t : StateValue) → cpu < 512 → Kept order filled cpu s → Keeps order s t → Kept order filled cpu t
kept_quiet order filled cpu s t below k keeps = search (seen_still, arith)

keeps_order : (order filled : Bool) (cpu : ℕ) (s t : StateValue) → Kept order filled cpu s → Keeps s.setting.without.order s t → Keeps order s t
keeps_order order filled cpu s t k keeps = search arith

-- one more that is owed
owed_more : (first : Bool) (to cpu : ℕ) (xs : List Bool) → slice_index_or xs cpu false ≡ true → slice_index_or (owed_if first to xs) cpu false ≡ true
owed_more first to cpu xs h = search (cases_eq, cases_lt, get_or-set_same, get_or-set_other, get_or_past, arith)

pub owed_long : (first : Bool) (to : ℕ) (xs : List Bool) → length (owed_if first to xs) ≡ length xs
owed_long first to xs = search (length-set, arith)

-- Something joins the queue of a CPU.
pub record Joins (a c : CpuState) : Type 0 where
  pub nodes : has_nodes c ≡ true
  pub pending : c.pending ≡ a.pending
  pub accepted : c.accepted ≡ a.accepted
  pub owed : c.owes ≡ a.owes

-- A CPU owes another an interrupt, if what it has added is the first there.
pub record Owes (first : Bool) (to : ℕ) (b d : CpuState) : Type 0 where
  pub nodes : has_nodes d ≡ has_nodes b
  pub pending : d.pending ≡ b.pending
  pub accepted : d.accepted ≡ b.accepted
  pub owed : d.owes ≡ owed_if first to b.owes

sized_joined : (order first : Bool) (to actor : ℕ) (s : StateValue) (c d : CpuState) → Sized order s → Joins (cpu_at s to) c
    → Owes first to (cpu_at (with_cpu to s c) actor) d → Sized order (with_cpu actor (with_cpu to s c) d)
sized_joined order first to actor s c d sized j o =
    let m = with_cpu to s c in
    sized_cpu order actor m d (sized_cpu order to s c sized (ap (λ xs. length xs) j.owed))
    (ap (λ xs. length xs) o.owed ∙ owed_long first to (cpu_at m actor).owes)

sees_joined : (first : Bool) (cpu to actor : ℕ) (s : StateValue) (c d : CpuState) → length s.cpus ≡ 512 → cpu < 512 → Joins (cpu_at s to) c
    → (cpu ≡ to → has_nodes (cpu_at s to) ≡ true) → Owes first to (cpu_at (with_cpu to s c) actor) d → SeesStill cpu s (with_cpu actor (with_cpu to s c) d)
sees_joined first cpu to actor s c d long below j had o =
    let m = with_cpu to s c in
    let long_m : length m.cpus ≡ 512 = length-set s.cpus to c ∙ long in
    sees_then cpu s m (with_cpu actor m d)
    (sees_cpu cpu to s c long below (λ e. j.nodes ∙ sym (had e)) (search arith) (search arith) (search arith))
    (sees_cpu cpu actor m d long_m below (λ e. o.nodes) (search arith) (search arith) (search (owed_more, arith)))

-- the source of what is first there owes the interrupt
first_owed : (first : Bool) (to actor : ℕ) (s : StateValue) (c d : CpuState) → length s.cpus ≡ 512 → length (cpu_at s actor).owes ≡ 512 → to < 512
    → actor < 512 → to ≢ actor → Owes first to (cpu_at (with_cpu to s c) actor) d → first ≡ true
    → owes (with_cpu actor (with_cpu to s c) d) to actor ≡ true
first_owed first to actor s c d long long_owes below actor_below ne o is = search (length-set, cpu_changed, cpu_kept, get_or-set_same, arith)

kept_here : (order filled : Bool) (to actor : ℕ) (s : StateValue) (c d : CpuState) → Kept order filled to s → to < 512 → actor < 512 → to ≢ actor
    → Joins (cpu_at s to) c → Owes (is_bare (cpu_at s to)) to (cpu_at (with_cpu to s c) actor) d
    → Kept order true to (with_cpu actor (with_cpu to s c) d)
kept_here order filled to actor s c d k below actor_below ne j o =
    let m = with_cpu to s c in
    let changed : cpu_at (with_cpu actor m d) to ≡ c = cpu_kept to actor m d ne ∙ cpu_changed to s c (rw k.sized.cpus_are below) in
    record {
      sized = sized_joined order (is_bare (cpu_at s to)) to actor s c d k.sized j o;
      nodes = λ told. rw changed j.nodes;
      seen_to = λ h. seen (is_bare (cpu_at s to)) refl;
    }
  where
    seen : (now : Bool) → is_bare (cpu_at s to) ≡ now → IsSeenTo (with_cpu actor (with_cpu to s c) d) to
    seen true is =
        let long = k.sized.owes_are actor actor_below in
        let owed = first_owed (is_bare (cpu_at s to)) to actor s c d k.sized.cpus_are long below actor_below ne o is in
        inr (inr (actor, (actor_below, owed)))
    seen false is =
        let had : has_nodes (cpu_at s to) ≡ true = ap (λ b. not b) is in
        seen_still to s (with_cpu actor (with_cpu to s c) d)
        (sees_joined (is_bare (cpu_at s to)) to to actor s c d k.sized.cpus_are below j (λ e. had) o) (k.seen_to had)

kept_joined : (order filled : Bool) (cpu to actor : ℕ) (s : StateValue) (c d : CpuState) (here : Bool) → (to == cpu) ≡ here → Kept order filled cpu s
    → cpu < 512 → actor < 512 → to ≢ actor → Joins (cpu_at s to) c → Owes (is_bare (cpu_at s to)) to (cpu_at (with_cpu to s c) actor) d
    → Kept order (here || filled) cpu (with_cpu actor (with_cpu to s c) d)
kept_joined order filled cpu to actor s c d true e k below actor_below ne j o =
    let same : to ≡ cpu = eqb-true to cpu e in
    subst (λ (x : ℕ). Kept order filled x s → Kept order true x (with_cpu actor (with_cpu to s c) d)) same
    (λ k. kept_here order filled to actor s c d k (rw same below) actor_below ne j o) k
kept_joined order filled cpu to actor s c d false e k below actor_below ne j o =
    let first = is_bare (cpu_at s to) in
    kept_still order filled cpu s (with_cpu actor (with_cpu to s c) d) k (sized_joined order first to actor s c d k.sized j o)
    (sees_joined first cpu to actor s c d k.sized.cpus_are below j (λ x. absurd (eqb-false to cpu e (sym x))) o)

-- a call joins the queue of its destination
pub has_pushed : (others : Bool) (call : Call) (queue : List Call) → not (not others && is_empty (queue ++ call ∷ [])) ≡ true
has_pushed true call queue = refl
has_pushed false call [] = refl
has_pushed false call (x ∷ xs) = refl

kept_queue : (order filled : Bool) (cpu source id to : ℕ) (class : Class) (func info : ℕ) (s t : StateValue) → Kept order filled cpu s → cpu < 512
    → source < 512 → queue_by (record { source = source; id = id; class = class; func = func; info = info }) to s ≡ Ok t
    → Kept order ((to == cpu) || filled) cpu t
unfolding queue_by
kept_queue order filled cpu source id to class func info s t k below source_below e =
    let call : Call = record { source = source; id = id; class = class; func = func; info = info } in
    let next = freed id s >>= λ m. Ok (joined call to m) in
    let so = joined_so s t source to next e in
    let r = both_made (freed id s) (λ m. Ok (joined call to m)) t so.1.1 in
    let f = kept_quiet order filled cpu s r.0 below k (keeps_order order filled cpu s r.0 k (keeps_freed id s r.0 r.1.0)) in
    let c = pushed call (cpu_at r.0 to) in
    let m = with_cpu to r.0 c in
    let n = with_cpu source m (noted to (is_bare (cpu_at r.0 to)) (cpu_at m source)) in
    let g = kept_joined order filled cpu to source r.0 c (noted to (is_bare (cpu_at r.0 to)) (cpu_at m source)) (to == cpu) refl f below source_below so.0
    (record { nodes = has_pushed (cpu_at r.0 to).others call (cpu_at r.0 to).queue; pending = refl; accepted = refl; owed = refl })
    (record { nodes = refl; pending = refl; accepted = refl; owed = refl }) in
    kept_end order ((to == cpu) || filled) cpu (joined call to r.0) t (cc)
    (kept_quiet order ((to == cpu) || filled) cpu n (joined call to r.0) below g (keeps_same order n (joined call to r.0) refl refl))

-- and so does what is no call
kept_other_by : (order filled : Bool) (cpu actor to : ℕ) (s : StateValue) → (without : Bool) → s.setting.without.order ≡ without → Kept order filled cpu s
    → cpu < 512 → actor < 512 → to ≢ actor
    → Kept order ((to == cpu) || filled) cpu (if without then s else other_joined actor to s)
kept_other_by order filled cpu actor to s true is k below actor_below ne = record {
  sized = k.sized;
  nodes = λ told. absurd (let told_is = sym k.sized.order_is ∙ is in cc);
  seen_to = k.seen_to;
}
kept_other_by order filled cpu actor to s false is k below actor_below ne =
    let c = pushed_other (cpu_at s to) in
    kept_joined order filled cpu to actor s c (owing to (is_bare (cpu_at s to)) (cpu_at (with_cpu to s c) actor)) (to == cpu) refl k below actor_below ne
    (record { nodes = refl; pending = refl; accepted = refl; owed = refl }) (record { nodes = refl; pending = refl; accepted = refl; owed = refl })

kept_other : (order filled : Bool) (cpu actor to : ℕ) (s t : StateValue) → Kept order filled cpu s → cpu < 512 → actor < 512 → other_by actor to s ≡ Ok t
    → Kept order ((to == cpu) || filled) cpu t
unfolding other_by
kept_other order filled cpu actor to s t k below actor_below e =
    let x = if s.setting.without.order then s else other_joined actor to s in
    let so = joined_so s t actor to (Ok x) e in
    let made = so.1.1 in
    kept_end order ((to == cpu) || filled) cpu x t (cc)
    (kept_other_by order filled cpu actor to s s.setting.without.order refl k below actor_below so.0)

-- an interrupt is sent
sent_still : (cpu actor to : ℕ) (m : StateValue) → cpu < length m.cpus → let n = with_cpu actor m (sent to (cpu_at m actor)) in
    (has_nodes (cpu_at n cpu) ≡ has_nodes (cpu_at m cpu)) × ((cpu_at n cpu).pending ≡ (cpu_at m cpu).pending)
sent_still cpu actor to m below = search (cases_eq, cpu_changed, cpu_kept, arith)

kept_sent : (order filled : Bool) (cpu actor to : ℕ) (s : StateValue) → Kept order filled cpu s → cpu < 512
    → let m = with_cpu to s (interrupted (cpu_at s to)) in Kept order filled cpu (with_cpu actor m (sent to (cpu_at m actor)))
kept_sent order filled cpu actor to s k below =
    let c = interrupted (cpu_at s to) in
    let m = with_cpu to s c in
    let d = sent to (cpu_at m actor) in
    let n = with_cpu actor m d in
    let sized_m = sized_cpu order to s c k.sized refl in
    let sized = sized_cpu order actor m d sized_m (length-set (cpu_at m actor).owes to false) in
    let first = sees_cpu cpu to s c k.sized.cpus_are below (λ e. refl) (λ e h. h) (λ e h. refl) (λ h. h) in
    let second = sent_still cpu actor to m (rw sized_m.cpus_are below) in
    elim (cases_eq cpu to) [
      | inl e ↦
          (let changed : cpu_at m to ≡ c = cpu_changed to s c (rw (k.sized.cpus_are, ← e) below) in
          record {
            sized = sized;
            nodes = λ told. second.0 ∙ first.nodes ∙ k.nodes told;
            seen_to = λ h. inr (inl (second.1 ∙ rw (e, changed) refl));
          })
      | inr ne ↦ kept_still order filled cpu s n k sized (sees_then cpu s m n first
          (sees_cpu cpu actor m d sized_m.cpus_are below (λ e. refl) (λ e h. h) (λ e h. h)
          (λ h. get_or-set_other (cpu_at m actor).owes to cpu false false ne ∙ h)))
    ]

kept_send : (order filled : Bool) (cpu actor to : ℕ) (s t : StateValue) → Kept order filled cpu s → cpu < 512 → send_by actor to s ≡ Ok t
    → Kept order filled cpu t
unfolding send_by
kept_send order filled cpu actor to s t k below e =
    let m = with_cpu to s (interrupted (cpu_at s to)) in
    let n = with_cpu actor m (sent to (cpu_at m actor)) in
    let p = passed (is_online s.setting to) (Ok n) (reason.NotOnline to) t e in
    kept_end order filled cpu n t (cc) (kept_sent order filled cpu actor to s k below)

-- A CPU has accepted the interrupt that was pending.
pub record Accepts (a b : CpuState) : Type 0 where
  pub nodes : has_nodes b ≡ has_nodes a
  pub accepted : b.accepted ≡ true
  pub owed : b.owes ≡ a.owes

pub accepts : (a b : CpuState) → accepted a ≡ Ok b → Accepts a b
accepts a b e = search (passed, both_made, arith)

kept_accepted : (order filled : Bool) (cpu actor : ℕ) (s : StateValue) (c : CpuState) → Kept order filled cpu s → cpu < 512 → Accepts (cpu_at s actor) c
    → Kept order filled cpu (with_cpu actor s c)
kept_accepted order filled cpu actor s c k below a =
    let sized = sized_cpu order actor s c k.sized (ap (λ xs. length xs) a.owed) in
    elim (cases_eq cpu actor) [
      | inl e ↦ record { sized = sized; nodes = search (cpu_changed, arith); seen_to = λ h. inl (search (cpu_changed, arith)) }
      | inr ne ↦ kept_still order filled cpu s (with_cpu actor s c) k sized (sees_cpu cpu actor s c k.sized.cpus_are below (λ e. absurd (ne e))
          (λ e h. absurd (ne e)) (λ e h. absurd (ne e)) (λ h. ap (λ xs. slice_index_or xs cpu false) a.owed ∙ h))
    ]

kept_accept : (order filled : Bool) (cpu actor : ℕ) (s t : StateValue) → Kept order filled cpu s → cpu < 512 → accept_by actor s ≡ Ok t
    → Kept order filled cpu t
kept_accept order filled cpu actor s t k below e =
    let m = made_on_cpu actor s t (accepted (cpu_at s actor)) e in
    kept_end order filled cpu (with_cpu actor s m.0) t m.1.1
    (kept_accepted order filled cpu actor s m.0 k below (accepts (cpu_at s actor) m.0 m.1.0))

-- a CPU takes its queue
kept_taken : (order filled : Bool) (cpu actor : ℕ) (s : StateValue) (here : Bool) → (actor == cpu) ≡ here → Kept order filled cpu s → cpu < 512
    → Kept order (if here then false else filled) cpu (with_cpu actor s (taken (cpu_at s actor)))
kept_taken order filled cpu actor s true e k below =
    let c = taken (cpu_at s actor) in
    let same : cpu ≡ actor = sym (eqb-true actor cpu e) in
    let empty : has_nodes (cpu_at (with_cpu actor s c) cpu) ≡ false = search (cpu_changed, arith) in
    record { sized = sized_cpu order actor s c k.sized refl; nodes = λ told. empty; seen_to = λ h. absurd cc }
kept_taken order filled cpu actor s false e k below =
    let c = taken (cpu_at s actor) in
    let ne : cpu ≢ actor = λ x. eqb-false actor cpu e (sym x) in
    kept_still order filled cpu s (with_cpu actor s c) k (sized_cpu order actor s c k.sized refl)
    (sees_cpu cpu actor s c k.sized.cpus_are below (λ x. absurd (ne x)) (λ x h. absurd (ne x)) (λ x h. absurd (ne x)) (λ h. h))

kept_take : (order filled : Bool) (cpu actor : ℕ) (s t : StateValue) → Kept order filled cpu s → cpu < 512 → take_by actor s ≡ Ok t
    → Kept order (if actor == cpu then false else filled) cpu t
unfolding take_by
kept_take order filled cpu actor s t k below e =
    let now : Bool = if actor == cpu then false else filled in
    let n = with_cpu actor s (taken (cpu_at s actor)) in
    let x = with_cpu actor (moved actor s) (taken (cpu_at s actor)) in
    let m = both_made (may_take (not s.setting.without.interrupts) (cpu_at s actor)) (λ u. Ok x) t e in
    kept_end order now cpu x t (cc)
    (kept_quiet order now cpu n x below (kept_taken order filled cpu actor s (actor == cpu) refl k below) (keeps_same order n x refl refl))

-- each event of one of the 512 CPUs keeps it
kept_call : (order filled : Bool) (cpu actor : ℕ) (e : CallEvent) (s t : StateValue) → Kept order filled cpu s → cpu < 512 → actor < 512
    → goes actor (event.Call e) s ≡ Ok t → Kept order (filled_next cpu filled (actor, event.Call e)) cpu t
unfolding call_goes
kept_call order filled cpu actor (calls.Queue id to class func info) s t k below low e =
    kept_queue order filled cpu actor id to class func info s t k below low e
kept_call order filled cpu actor (calls.QueueOther to node) s t k below low e = kept_other order filled cpu actor to s t k below low e
kept_call order filled cpu actor (calls.Free id) s t k below low e =
    kept_quiet order filled cpu s t below k (keeps_order order filled cpu s t k (keeps_freed id s t e))
kept_call order filled cpu actor (calls.Send to) s t k below low e = kept_send order filled cpu actor to s t k below e
kept_call order filled cpu actor calls.Accept s t k below low e = kept_accept order filled cpu actor s t k below e
kept_call order filled cpu actor calls.Idle s t k below low e =
    let m = both_made (idle_by actor s) (λ u. Ok s) t e in kept_end order filled cpu s t (cc) k
kept_call order filled cpu actor calls.Take s t k below low e = kept_take order filled cpu actor s t k below e
kept_call order filled cpu actor (calls.Unlock id) s t k below low e = kept_quiet order filled cpu s t below k (keeps_unlock order actor id s t e)
kept_call order filled cpu actor (calls.Begin id func info) s t k below low e =
    kept_quiet order filled cpu s t below k (keeps_order order filled cpu s t k (keeps_begin actor id func info s t e))
kept_call order filled cpu actor (calls.End id) s t k below low e = kept_quiet order filled cpu s t below k (keeps_ended order actor id s t e)

kept_goes : (order filled : Bool) (cpu actor : ℕ) (e : Event) (s t : StateValue) → Kept order filled cpu s → cpu < 512 → actor < 512
    → goes actor e s ≡ Ok t → Kept order (filled_next cpu filled (actor, e)) cpu t
kept_goes order filled cpu actor (event.Call e) s t k below low g = kept_call order filled cpu actor e s t k below low g
kept_goes order filled cpu actor (event.Stop e) s t k below low g =
    kept_quiet order filled cpu s t below k (keeps_kept order s t (stop_keeps_calls actor e s t g))
kept_goes order filled cpu actor (event.Label e) s t k below low g =
    kept_quiet order filled cpu s t below k (keeps_kept order s t (label_keeps_calls actor e s t (low_event actor _ t g).1))

-- and so does a run of them
kept_runs : (order filled : Bool) (cpu : ℕ) (es : List (ℕ × Event)) (s t : StateValue) → Kept order filled cpu s → cpu < 512
    → AllByRecursion (λ e. e.0 < 512) es → RunsOf s es t → Kept order (filled_from cpu filled es) cpu t
unfolding filled_from
kept_runs order filled cpu [] s t k below all run = kept_end order filled cpu s t (sym run) k
kept_runs order filled cpu (e ∷ es) s t k below (low, all) (m, (g, run)) =
    kept_runs order (filled_next cpu filled e) cpu es m t (kept_goes order filled cpu e.0 e.1 s m k below low g) below all run

-- before the first event each queue is empty
kept_at_first : (u : Setting) (words : LabelWords) (cpu : ℕ) → Kept u.without.order false cpu (opening u words)
kept_at_first u words cpu =
    let none : has_nodes (cpu_at (opening u words) cpu) ≡ false = ap (λ c. has_nodes c) (fresh_at u words cpu) in
    let sized : Sized u.without.order (opening u words) = record {
      order_is = ap (λ v. v.without.order) (setting_at_first u words);
      cpus_are = cpus_at_first u words;
      owes_are = λ x low. ap (λ c. length c.owes) (fresh_at u words x) ∙ length-replicate {A = Bool} 512 false;
    } in
    record { sized = sized; nodes = λ told. none; seen_to = λ h. absurd cc }

pub queues_are_not_lost : QueuesAreNotLost
queues_are_not_lost u words es t run all cpu below =
    let k = kept_runs u.without.order false cpu es (opening u words) t (kept_at_first u words cpu) below all run in
    record { filled = k.nodes; seen_to = k.seen_to }

-- a CPU that is put elsewhere, or here
pub at_with : (cpu x : ℕ) (s : StateValue) (c : CpuState) (here : Bool) → (x == cpu) ≡ here → cpu < length s.cpus
    → cpu_at (with_cpu x s c) cpu ≡ (if here then c else cpu_at s cpu)
at_with cpu x s c true e below =
    let same : x ≡ cpu = eqb-true x cpu e in
    subst (λ (o : ℕ). cpu_at (with_cpu o s c) cpu ≡ c) (sym same) (cpu_changed cpu s c below)
at_with cpu x s c false e below = cpu_kept cpu x s c (λ y. eqb-false x cpu e (sym y))

pending_if : (here : Bool) (a b : CpuState) (x : Bool) → a.pending ≡ x → (if here then a else b).pending ≡ (if here then x else b.pending)
pending_if true a b x is = is
pending_if false a b x is = refl

accepted_if : (here : Bool) (a b : CpuState) (x : Bool) → a.accepted ≡ x → (if here then a else b).accepted ≡ (if here then x else b.accepted)
accepted_if true a b x is = is
accepted_if false a b x is = refl

takes_pending : (a b : CpuState) → accepted a ≡ Ok b → (b.pending ≡ false) × (b.accepted ≡ true)
takes_pending a b e = search (passed, both_made, arith)

-- what a CPU has of interrupts is as before
record SameInterrupts (a b : CpuState) : Type 0 where
  pending : b.pending ≡ a.pending
  accepted : b.accepted ≡ a.accepted

interrupts_then : (a b c : CpuState) → SameInterrupts a b → SameInterrupts b c → SameInterrupts a c
interrupts_then a b c p q = record { pending = q.pending ∙ p.pending; accepted = q.accepted ∙ p.accepted }

interrupts_end : (a : CpuState) (cpu : ℕ) (s t : StateValue) → s ≡ t → SameInterrupts a (cpu_at s cpu) → SameInterrupts a (cpu_at t cpu)
interrupts_end a cpu s t same p = subst (λ (x : StateValue). SameInterrupts a (cpu_at x cpu)) same p

interrupts_cpu : (cpu x : ℕ) (s : StateValue) (c : CpuState) → cpu < length s.cpus → SameInterrupts (cpu_at s x) c
    → SameInterrupts (cpu_at s cpu) (cpu_at (with_cpu x s c) cpu)
interrupts_cpu cpu x s c below same = search (cases_eq, cpu_changed, cpu_kept, arith)

interrupts_two : (cpu to actor : ℕ) (s : StateValue) (c d : CpuState) → cpu < length s.cpus → SameInterrupts (cpu_at s to) c
    → SameInterrupts (cpu_at (with_cpu to s c) actor) d → SameInterrupts (cpu_at s cpu) (cpu_at (with_cpu actor (with_cpu to s c) d) cpu)
interrupts_two cpu to actor s c d below p q =
    let m = with_cpu to s c in
    let n = with_cpu actor m d in
    interrupts_then (cpu_at s cpu) (cpu_at m cpu) (cpu_at n cpu) (interrupts_cpu cpu to s c below p)
    (interrupts_cpu cpu actor m d (rw (length-set s.cpus to c) below) q)

interrupts_kept : (order : Bool) (cpu : ℕ) (s t : StateValue) → cpu < length s.cpus → Keeps order s t → SameInterrupts (cpu_at s cpu) (cpu_at t cpu)
interrupts_kept order cpu s t below k = let h = k.holds cpu below in record { pending = h.pending; accepted = h.accepted }

interrupts_queue : (cpu source id to : ℕ) (class : Class) (func info : ℕ) (s t : StateValue) → cpu < length s.cpus
    → queue_by (record { source = source; id = id; class = class; func = func; info = info }) to s ≡ Ok t → SameInterrupts (cpu_at s cpu) (cpu_at t cpu)
unfolding queue_by
interrupts_queue cpu source id to class func info s t below e =
    let call : Call = record { source = source; id = id; class = class; func = func; info = info } in
    let next = freed id s >>= λ m. Ok (joined call to m) in
    let so = joined_so s t source to next e in
    let r = both_made (freed id s) (λ m. Ok (joined call to m)) t so.1.1 in
    let k = keeps_freed id s r.0 r.1.0 in
    let c = pushed call (cpu_at r.0 to) in
    let d = noted to (is_bare (cpu_at r.0 to)) (cpu_at (with_cpu to r.0 c) source) in
    let n = with_cpu source (with_cpu to r.0 c) d in
    interrupts_end (cpu_at s cpu) cpu (joined call to r.0) t (cc)
    (interrupts_then (cpu_at s cpu) (cpu_at r.0 cpu) (cpu_at n cpu) (interrupts_kept s.setting.without.order cpu s r.0 below k)
    (interrupts_two cpu to source r.0 c d (rw k.cpus_are below) (record { pending = refl; accepted = refl }) (record { pending = refl; accepted = refl })))

interrupts_other : (cpu actor to : ℕ) (s t : StateValue) → cpu < length s.cpus → other_by actor to s ≡ Ok t → SameInterrupts (cpu_at s cpu) (cpu_at t cpu)
unfolding other_by
interrupts_other cpu actor to s t below e =
    let c = pushed_other (cpu_at s to) in
    let d = owing to (is_bare (cpu_at s to)) (cpu_at (with_cpu to s c) actor) in
    let n = other_joined actor to s in
    let x = if s.setting.without.order then s else n in
    let so = joined_so s t actor to (Ok x) e in
    let made = so.1.1 in
    interrupts_end (cpu_at s cpu) cpu x t (cc)
    (either_state (λ z. SameInterrupts (cpu_at s cpu) (cpu_at z cpu)) s.setting.without.order s n (record { pending = refl; accepted = refl })
    (interrupts_two cpu to actor s c d below (record { pending = refl; accepted = refl }) (record { pending = refl; accepted = refl })))

-- An event has done this to the interrupts of a CPU.
record Told (cpu : ℕ) (e : ℕ × Event) (s t : StateValue) : Type 0 where
  pending : (cpu_at t cpu).pending ≡ pending_next cpu (cpu_at s cpu).pending e
  accepted : (cpu_at t cpu).accepted ≡ accepted_next cpu (cpu_at s cpu).accepted e

told_end : (cpu : ℕ) (e : ℕ × Event) (s t u : StateValue) → t ≡ u → Told cpu e s t → Told cpu e s u
told_end cpu e s t u same told = subst (λ (x : StateValue). Told cpu e s x) same told

told_send : (cpu actor to : ℕ) (s t : StateValue) → cpu < length s.cpus → send_by actor to s ≡ Ok t → Told cpu (actor, event.Call (calls.Send to)) s t
unfolding send_by
told_send cpu actor to s t below e =
    let c = interrupted (cpu_at s to) in
    let m = with_cpu to s c in
    let d = sent to (cpu_at m actor) in
    let n = with_cpu actor m d in
    let p = passed (is_online s.setting to) (Ok n) (reason.NotOnline to) t e in
    let last = interrupts_cpu cpu actor m d (rw (length-set s.cpus to c) below) (record { pending = refl; accepted = refl }) in
    let at : cpu_at m cpu ≡ (if to == cpu then c else cpu_at s cpu) = at_with cpu to s c (to == cpu) refl below in
    let accepted : (cpu_at m cpu).accepted ≡ (cpu_at s cpu).accepted = search (cases_eq, cpu_changed, cpu_kept, arith) in
    told_end cpu (actor, event.Call (calls.Send to)) s n t (cc) (record {
      pending = last.pending ∙ ap (λ x. x.pending) at ∙ pending_if (to == cpu) c (cpu_at s cpu) true refl;
      accepted = last.accepted ∙ accepted;
    })

told_accept : (cpu actor : ℕ) (s t : StateValue) → cpu < length s.cpus → accept_by actor s ≡ Ok t → Told cpu (actor, event.Call calls.Accept) s t
told_accept cpu actor s t below e =
    let m = made_on_cpu actor s t (accepted (cpu_at s actor)) e in
    let a : (m.0.pending ≡ false) × (m.0.accepted ≡ true) = takes_pending (cpu_at s actor) m.0 m.1.0 in
    let at : cpu_at (with_cpu actor s m.0) cpu ≡ (if actor == cpu then m.0 else cpu_at s cpu) = at_with cpu actor s m.0 (actor == cpu) refl below in
    told_end cpu (actor, event.Call calls.Accept) s (with_cpu actor s m.0) t m.1.1 (record {
      pending = ap (λ x. x.pending) at ∙ pending_if (actor == cpu) m.0 (cpu_at s cpu) false a.0;
      accepted = ap (λ x. x.accepted) at ∙ accepted_if (actor == cpu) m.0 (cpu_at s cpu) true a.1;
    })

told_take : (cpu actor : ℕ) (s t : StateValue) → cpu < length s.cpus → take_by actor s ≡ Ok t → Told cpu (actor, event.Call calls.Take) s t
unfolding take_by
told_take cpu actor s t below e =
    let c = taken (cpu_at s actor) in
    let x = with_cpu actor (moved actor s) c in
    let m = both_made (may_take (not s.setting.without.interrupts) (cpu_at s actor)) (λ u. Ok x) t e in
    let at : cpu_at x cpu ≡ (if actor == cpu then c else cpu_at s cpu) = at_with cpu actor (moved actor s) c (actor == cpu) refl below in
    let pending : (cpu_at x cpu).pending ≡ (cpu_at s cpu).pending = search (cases_eq, cpu_changed, cpu_kept, arith) in
    told_end cpu (actor, event.Call calls.Take) s x t (cc) (record {
      pending = pending;
      accepted = ap (λ x. x.accepted) at ∙ accepted_if (actor == cpu) c (cpu_at s cpu) false refl;
    })

told_call : (cpu actor : ℕ) (e : CallEvent) (s t : StateValue) → cpu < length s.cpus → goes actor (event.Call e) s ≡ Ok t → Told cpu (actor, event.Call e) s t
unfolding call_goes
told_call cpu actor (calls.Queue id to class func info) s t below e =
    let i = interrupts_queue cpu actor id to class func info s t below e in record { pending = i.pending; accepted = i.accepted }
told_call cpu actor (calls.QueueOther to node) s t below e =
    let i = interrupts_other cpu actor to s t below e in record { pending = i.pending; accepted = i.accepted }
told_call cpu actor (calls.Free id) s t below e =
    let i = interrupts_kept s.setting.without.order cpu s t below (keeps_freed id s t e) in record { pending = i.pending; accepted = i.accepted }
told_call cpu actor (calls.Send to) s t below e = told_send cpu actor to s t below e
told_call cpu actor calls.Accept s t below e = told_accept cpu actor s t below e
told_call cpu actor calls.Idle s t below e =
    let m = both_made (idle_by actor s) (λ u. Ok s) t e in
    told_end cpu (actor, event.Call calls.Idle) s s t (cc) (record { pending = refl; accepted = refl })
told_call cpu actor calls.Take s t below e = told_take cpu actor s t below e
told_call cpu actor (calls.Unlock id) s t below e =
    let i = interrupts_kept true cpu s t below (keeps_unlock true actor id s t e) in record { pending = i.pending; accepted = i.accepted }
told_call cpu actor (calls.Begin id func info) s t below e =
    let i = interrupts_kept s.setting.without.order cpu s t below (keeps_begin actor id func info s t e) in
    record { pending = i.pending; accepted = i.accepted }
told_call cpu actor (calls.End id) s t below e =
    let i = interrupts_kept true cpu s t below (keeps_ended true actor id s t e) in record { pending = i.pending; accepted = i.accepted }

told_goes : (cpu actor : ℕ) (e : Event) (s t : StateValue) → cpu < length s.cpus → goes actor e s ≡ Ok t → Told cpu (actor, e) s t
told_goes cpu actor (event.Call e) s t below g = told_call cpu actor e s t below g
told_goes cpu actor (event.Stop e) s t below g =
    let i = interrupts_kept true cpu s t below (keeps_kept true s t (stop_keeps_calls actor e s t g)) in
    record { pending = i.pending; accepted = i.accepted }
told_goes cpu actor (event.Label e) s t below g =
    let i = interrupts_kept true cpu s t below (keeps_kept true s t (label_keeps_calls actor e s t (low_event actor _ t g).1)) in
    record { pending = i.pending; accepted = i.accepted }

told_runs : (cpu : ℕ) (es : List (ℕ × Event)) (s t : StateValue) → cpu < length s.cpus → RunsOf s es t
    → ((cpu_at t cpu).pending ≡ pending_from cpu (cpu_at s cpu).pending es) × ((cpu_at t cpu).accepted ≡ accepted_from cpu (cpu_at s cpu).accepted es)
unfolding pending_from accepted_from
told_runs cpu [] s t below run = (ap (λ x. (cpu_at x cpu).pending) run, ap (λ x. (cpu_at x cpu).accepted) run)
told_runs cpu (e ∷ es) s t below (m, (g, run)) =
    let told = told_goes cpu e.0 e.1 s m below g in
    let long = (event_shows s.setting.without.order cpu e.0 e.1 s m refl below g).goes.cpus_are in
    let rest = told_runs cpu es m t (rw long below) run in
    (rest.0 ∙ ap (λ b. pending_from cpu b es) told.pending, rest.1 ∙ ap (λ b. accepted_from cpu b es) told.accepted)

pub interrupts_are_told : OfEachTrace InterruptIsTold
interrupts_are_told u words es t run cpu low =
    let first = opening u words in
    let fresh = fresh_at u words cpu in
    let r = told_runs cpu es first t (rw (cpus_at_first u words) low) run in
    record {
      pending = r.0 ∙ ap (λ c. pending_from cpu c.pending es) fresh;
      accepted = r.1 ∙ ap (λ c. accepted_from cpu c.accepted es) fresh;
    }
