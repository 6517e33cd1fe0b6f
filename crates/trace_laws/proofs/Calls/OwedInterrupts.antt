-- A CPU owes another an interrupt where the events say so.
use Rattle.trace_laws.proofs.Names.{Bool, Call, CallEvent, Class, CpuState, Event, List, Ok, Runs as RunsOf, StateValue, [], accept_by, accepted, ap, arith}
use Rattle.trace_laws.proofs.Names.{call_goes, cases_eq, cpu_at, eqb-false, eqb-true, false, freed, get_or-set_other, get_or-set_same, goes, idle_by}
use Rattle.trace_laws.proofs.Names.{if◌then◌else◌, interrupted, is_bare, is_online, joined, length, length-replicate, length-set, may_take, moved, not, noted}
use Rattle.trace_laws.proofs.Names.{opening, other_by, owing, pushed, pushed_other, queue_by, refl, send_by, sent, slice_index_or, slice_set, subst, sym}
use Rattle.trace_laws.proofs.Names.{take_by, taken, true, with_cpu, ℕ, ◌&&◌, ◌<◌, ◌==◌, ◌>>=◌, ◌||◌, ◌∙◌, ◌∷◌, ◌≡◌}
use Rattle.smp_words.proofs.Zeros.{get_or-same}
use Rattle.trace_model.specs.declared.event.CallEvent.TheVariants as calls
use Rattle.trace_model.specs.declared.event.Event.TheVariants as event
use Rattle.trace_model.specs.declared.reason.Reason.TheVariants as reason
use Rattle.trace_model.specs.Calls.{other_joined}
use Rattle.trace_model.specs.Cpu.{owed_if}
use Rattle.trace_model.specs.Ending.{has_nodes, owes}
use Rattle.trace_laws.proofs.Calls.CallEvents.{made_on_cpu}
use Rattle.trace_laws.proofs.Calls.LostQueues.{Joins, Keeps, Owes, accepts, at_with, has_pushed, keeps_begin, keeps_ended, keeps_freed, keeps_kept}
use Rattle.trace_laws.proofs.Calls.LostQueues.{keeps_refl, keeps_unlock, owed_long}
use Rattle.trace_laws.proofs.Calls.MadeSteps.{both_made, low_event, passed}
use Rattle.trace_laws.proofs.Calls.OtherEvents.{label_keeps_calls, stop_keeps_calls}
use Rattle.trace_laws.proofs.Calls.ShownByRuns.{event_shows}
use Rattle.trace_laws.proofs.Calls.ShownByTraces.{cpus_at_first, fresh_at}
use Rattle.trace_laws.proofs.Calls.StateSteps.{cpu_changed, cpu_kept}
use Rattle.trace_laws.proofs.Calls.Targets.{joined_so}
use Rattle.trace_laws.proofs.Stops.AtRun.{setting_at_first}
use Rattle.trace_laws.specs.LostQueues.{InterruptIsOwed, filled_next, owed_from, owed_next}
use Rattle.trace_laws.specs.Traces.{OfEachTrace}

-- The order is told, and both CPUs are there: this one, and the source that may owe it an interrupt.
record Two (cpu source : ℕ) (s : StateValue) : Type 0 where
  told : s.setting.without.order ≡ false
  below : cpu < length s.cpus
  low : source < length s.cpus
  within : cpu < length (cpu_at s source).owes

-- After an event this tells whether something is in the CPU's queue, and whether the source owes it an interrupt.
record After (cpu source : ℕ) (filled owed : Bool) (s t : StateValue) : Type 0 where
  long : length (cpu_at t source).owes ≡ length (cpu_at s source).owes
  nodes : has_nodes (cpu_at t cpu) ≡ filled
  owed_is : owes t cpu source ≡ owed

after_end : (cpu source : ℕ) (filled owed : Bool) (s t u : StateValue) → t ≡ u → After cpu source filled owed s t → After cpu source filled owed s u
after_end cpu source filled owed s t u same a = subst (λ (x : StateValue). After cpu source filled owed s x) same a

-- it is as before
abbrev SameAfter : ℕ → ℕ → StateValue → StateValue → Type 0
SameAfter cpu source s t = After cpu source (has_nodes (cpu_at s cpu)) (owes s cpu source) s t

after_kept : (cpu source : ℕ) (s t : StateValue) → Two cpu source s → Keeps false s t → SameAfter cpu source s t
after_kept cpu source s t two keeps =
    let there = keeps.holds source two.low in
    record {
      long = ap (λ xs. length xs) there.owed;
      nodes = (keeps.holds cpu two.below).nodes refl;
      owed_is = ap (λ xs. slice_index_or xs cpu false) there.owed;
    }

keeps_told : (s t : StateValue) → s.setting.without.order ≡ false → Keeps s.setting.without.order s t → Keeps false s t
keeps_told s t told keeps = subst (λ (order : Bool). Keeps order s t) told keeps

-- a CPU is changed, but not its queue, or not what it owes
nodes_with : (cpu x : ℕ) (s : StateValue) (c : CpuState) → cpu < length s.cpus → has_nodes c ≡ has_nodes (cpu_at s x)
    → has_nodes (cpu_at (with_cpu x s c) cpu) ≡ has_nodes (cpu_at s cpu)
nodes_with cpu x s c below same = search (cases_eq, cpu_changed, cpu_kept, arith)

owes_with : (source x : ℕ) (s : StateValue) (c : CpuState) → source < length s.cpus → c.owes ≡ (cpu_at s x).owes
    → (cpu_at (with_cpu x s c) source).owes ≡ (cpu_at s source).owes
owes_with source x s c low same = search (cases_eq, cpu_changed, cpu_kept, arith)

after_cpu : (cpu source x : ℕ) (filled : Bool) (s : StateValue) (c : CpuState) → source < length s.cpus → c.owes ≡ (cpu_at s x).owes
    → has_nodes (cpu_at (with_cpu x s c) cpu) ≡ filled → After cpu source filled (owes s cpu source) s (with_cpu x s c)
after_cpu cpu source x filled s c low owed nodes =
    let list = owes_with source x s c low owed in
    record { long = ap (λ xs. length xs) list; nodes = nodes; owed_is = ap (λ xs. slice_index_or xs cpu false) list }

-- a CPU is changed, and what it owes
owes_changed : (f : List Bool → List Bool) (source x : ℕ) (s : StateValue) (c : CpuState) (mine : Bool) → (x == source) ≡ mine → source < length s.cpus
    → c.owes ≡ f (cpu_at s x).owes → (cpu_at (with_cpu x s c) source).owes ≡ (if mine then f (cpu_at s source).owes else (cpu_at s source).owes)
owes_changed f source x s c true e low is =
    ap (λ a. a.owes) (at_with source x s c true e low) ∙ is ∙ ap (λ n. f (cpu_at s n).owes) (eqb-true x source e)
owes_changed f source x s c false e low is = ap (λ a. a.owes) (at_with source x s c false e low)

long_if : (mine : Bool) (xs ys : List Bool) → length xs ≡ length ys → length (if mine then xs else ys) ≡ length ys
long_if true xs ys long = long
long_if false xs ys long = refl

-- of two CPUs: one is changed, but not what it owes, and then another
owes_changed_last : (f : List Bool → List Bool) (source to actor : ℕ) (s : StateValue) (c d : CpuState) → source < length s.cpus
    → c.owes ≡ (cpu_at s to).owes → d.owes ≡ f (cpu_at (with_cpu to s c) actor).owes
    → (cpu_at (with_cpu actor (with_cpu to s c) d) source).owes ≡ (if actor == source then f (cpu_at s source).owes else (cpu_at s source).owes)
owes_changed_last f source to actor s c d low kept is =
    owes_changed f source actor (with_cpu to s c) d (actor == source) refl (rw (length-set s.cpus to c) low) is
    ∙ ap (λ xs. if actor == source then f xs else xs) (owes_with source to s c low kept)

-- something joins a queue: what is in it, and what is owed
joined_if : (here : Bool) (a b : CpuState) → has_nodes a ≡ true → has_nodes (if here then a else b) ≡ (here || has_nodes b)
joined_if true a b had = had
joined_if false a b had = refl

owed_first : (mine here first filled : Bool) (to cpu : ℕ) (xs : List Bool) → (to == cpu) ≡ here → cpu < length xs → (here ≡ true → first ≡ not filled)
    → slice_index_or (if mine then owed_if first to xs else xs) cpu false ≡ (if mine && here && not filled then true else slice_index_or xs cpu false)
owed_first false here first filled to cpu xs e within is = refl
owed_first true true first true to cpu xs e within is = rw (is refl) refl
owed_first true true first false to cpu xs e within is = rw (is refl, eqb-true to cpu e) (get_or-set_same xs cpu true false within)
owed_first true false true filled to cpu xs e within is = get_or-set_other xs to cpu true false (λ same. eqb-false to cpu e (sym same))
owed_first true false false filled to cpu xs e within is = refl

-- it is the first there just where the queue was empty
bare : (filled : Bool) (c : CpuState) → has_nodes c ≡ filled → is_bare c ≡ not filled
bare filled c had = twice (is_bare c) ∙ ap (λ b. not b) had
  where
    twice : (b : Bool) → b ≡ not (not b)
    twice true = refl
    twice false = refl

abbrev JoinedAfter : ℕ → ℕ → ℕ → ℕ → Bool → Bool → StateValue → StateValue → Type 0
JoinedAfter cpu source actor to filled owed s t =
    After cpu source ((to == cpu) || filled) (if (actor == source) && (to == cpu) && not filled then true else owed) s t

after_joined : (cpu source actor to : ℕ) (filled owed : Bool) (s : StateValue) (c d : CpuState) → Two cpu source s → has_nodes (cpu_at s cpu) ≡ filled
    → owes s cpu source ≡ owed → Joins (cpu_at s to) c → Owes (is_bare (cpu_at s to)) to (cpu_at (with_cpu to s c) actor) d
    → JoinedAfter cpu source actor to filled owed s (with_cpu actor (with_cpu to s c) d)
after_joined cpu source actor to filled owed s c d two had was j o =
    let first = is_bare (cpu_at s to) in
    let xs = (cpu_at s source).owes in
    let is_first = λ (e : (to == cpu) ≡ true). bare filled (cpu_at s to) (rw (eqb-true to cpu e) had) in
    let list = owes_changed_last (λ ys. owed_if first to ys) source to actor s c d two.low j.owed o.owed in
    record {
      long = ap (λ ys. length ys) list ∙ long_if (actor == source) (owed_if first to xs) xs (owed_long first to xs);
      nodes = nodes_with cpu actor (with_cpu to s c) d (rw (length-set s.cpus to c) two.below) o.nodes
          ∙ ap (λ a. has_nodes a) (at_with cpu to s c (to == cpu) refl two.below) ∙ joined_if (to == cpu) c (cpu_at s cpu) j.nodes
          ∙ ap (λ b. (to == cpu) || b) had;
      owed_is = ap (λ ys. slice_index_or ys cpu false) list
          ∙ owed_first (actor == source) (to == cpu) first filled to cpu xs refl two.within is_first
          ∙ ap (λ b. if (actor == source) && (to == cpu) && not filled then true else b) was;
    }

-- a call
after_queue : (cpu source actor id to : ℕ) (class : Class) (func info : ℕ) (s t : StateValue) → Two cpu source s
    → queue_by (record { source = actor; id = id; class = class; func = func; info = info }) to s ≡ Ok t
    → JoinedAfter cpu source actor to (has_nodes (cpu_at s cpu)) (owes s cpu source) s t
unfolding queue_by
after_queue cpu source actor id to class func info s t two e =
    let call : Call = record { source = actor; id = id; class = class; func = func; info = info } in
    let next = freed id s >>= λ m. Ok (joined call to m) in
    let so = joined_so s t actor to next e in
    let r = both_made (freed id s) (λ m. Ok (joined call to m)) t so.1.1 in
    let k = keeps_told s r.0 two.told (keeps_freed id s r.0 r.1.0) in
    let kept = after_kept cpu source s r.0 two k in
    let two_r : Two cpu source r.0 = record {
      told = ap (λ u. u.without.order) k.setting_is ∙ two.told;
      below = rw k.cpus_are two.below;
      low = rw k.cpus_are two.low;
      within = rw kept.long two.within;
    } in
    let c = pushed call (cpu_at r.0 to) in
    let d = noted to (is_bare (cpu_at r.0 to)) (cpu_at (with_cpu to r.0 c) actor) in
    let filled = has_nodes (cpu_at s cpu) in
    let a = after_joined cpu source actor to filled (owes s cpu source) r.0 c d two_r kept.nodes kept.owed_is
    (record { nodes = has_pushed (cpu_at r.0 to).others call (cpu_at r.0 to).queue; pending = refl; accepted = refl; owed = refl })
    (record { nodes = refl; pending = refl; accepted = refl; owed = refl }) in
    after_end cpu source ((to == cpu) || filled) (if (actor == source) && (to == cpu) && not filled then true else owes s cpu source) s
    (joined call to r.0) t (cc) (record { long = a.long ∙ kept.long; nodes = a.nodes; owed_is = a.owed_is })

-- and what is no call
when_told : (order : Bool) (s n : StateValue) → order ≡ false → n ≡ (if order then s else n)
when_told true s n told = absurd cc
when_told false s n told = refl

after_other : (cpu source actor to : ℕ) (s t : StateValue) → Two cpu source s → other_by actor to s ≡ Ok t
    → JoinedAfter cpu source actor to (has_nodes (cpu_at s cpu)) (owes s cpu source) s t
unfolding other_by
after_other cpu source actor to s t two e =
    let c = pushed_other (cpu_at s to) in
    let d = owing to (is_bare (cpu_at s to)) (cpu_at (with_cpu to s c) actor) in
    let n = other_joined actor to s in
    let x = if s.setting.without.order then s else n in
    let so = joined_so s t actor to (Ok x) e in
    let made = so.1.1 in
    let same : x ≡ t = cc in
    let filled = has_nodes (cpu_at s cpu) in
    after_end cpu source ((to == cpu) || filled) (if (actor == source) && (to == cpu) && not filled then true else owes s cpu source) s n t
    (when_told s.setting.without.order s n two.told ∙ same) (after_joined cpu source actor to filled (owes s cpu source) s c d two refl refl
    (record { nodes = refl; pending = refl; accepted = refl; owed = refl }) (record { nodes = refl; pending = refl; accepted = refl; owed = refl }))

-- an interrupt is sent
owed_sent : (mine here : Bool) (to cpu : ℕ) (xs : List Bool) → (to == cpu) ≡ here → cpu < length xs
    → slice_index_or (if mine then slice_set xs to false else xs) cpu false ≡ (if mine && here then false else slice_index_or xs cpu false)
owed_sent false here to cpu xs e within = refl
owed_sent true true to cpu xs e within = rw (eqb-true to cpu e) (get_or-set_same xs cpu false false within)
owed_sent true false to cpu xs e within = get_or-set_other xs to cpu false false (λ same. eqb-false to cpu e (sym same))

after_send : (cpu source actor to : ℕ) (s t : StateValue) → Two cpu source s → send_by actor to s ≡ Ok t
    → After cpu source (has_nodes (cpu_at s cpu)) (if (actor == source) && (to == cpu) then false else owes s cpu source) s t
unfolding send_by
after_send cpu source actor to s t two e =
    let c = interrupted (cpu_at s to) in
    let m = with_cpu to s c in
    let d = sent to (cpu_at m actor) in
    let n = with_cpu actor m d in
    let p = passed (is_online s.setting to) (Ok n) (reason.NotOnline to) t e in
    let xs = (cpu_at s source).owes in
    let list = owes_changed_last (λ ys. slice_set ys to false) source to actor s c d two.low refl refl in
    after_end cpu source (has_nodes (cpu_at s cpu)) (if (actor == source) && (to == cpu) then false else owes s cpu source) s n t (cc) (record {
      long = ap (λ ys. length ys) list ∙ long_if (actor == source) (slice_set xs to false) xs (length-set xs to false);
      nodes = nodes_with cpu actor m d (rw (length-set s.cpus to c) two.below) refl ∙ nodes_with cpu to s c two.below refl;
      owed_is = ap (λ ys. slice_index_or ys cpu false) list ∙ owed_sent (actor == source) (to == cpu) to cpu xs refl two.within;
    })

-- it is accepted
after_accept : (cpu source actor : ℕ) (s t : StateValue) → Two cpu source s → accept_by actor s ≡ Ok t → SameAfter cpu source s t
after_accept cpu source actor s t two e =
    let m = made_on_cpu actor s t (accepted (cpu_at s actor)) e in
    let a = accepts (cpu_at s actor) m.0 m.1.0 in
    after_end cpu source (has_nodes (cpu_at s cpu)) (owes s cpu source) s (with_cpu actor s m.0) t m.1.1
    (after_cpu cpu source actor (has_nodes (cpu_at s cpu)) s m.0 two.low a.owed (nodes_with cpu actor s m.0 two.below a.nodes))

-- a CPU takes its queue
emptied_if : (here : Bool) (a b : CpuState) → has_nodes a ≡ false → has_nodes (if here then a else b) ≡ (if here then false else has_nodes b)
emptied_if true a b none = none
emptied_if false a b none = refl

after_take : (cpu source actor : ℕ) (s t : StateValue) → Two cpu source s → take_by actor s ≡ Ok t
    → After cpu source (if actor == cpu then false else has_nodes (cpu_at s cpu)) (owes s cpu source) s t
unfolding take_by
after_take cpu source actor s t two e =
    let c = taken (cpu_at s actor) in
    let filled : Bool = if actor == cpu then false else has_nodes (cpu_at s cpu) in
    let x = with_cpu actor (moved actor s) c in
    let m = both_made (may_take (not s.setting.without.interrupts) (cpu_at s actor)) (λ u. Ok x) t e in
    let a = after_cpu cpu source actor filled s c two.low refl
    (ap (λ b. has_nodes b) (at_with cpu actor s c (actor == cpu) refl two.below) ∙ emptied_if (actor == cpu) c (cpu_at s cpu) refl) in
    after_end cpu source filled (owes s cpu source) s x t (cc) (record { long = a.long; nodes = a.nodes; owed_is = a.owed_is })

-- each event does what is said of it
abbrev Told : ℕ → ℕ → ℕ × Event → StateValue → StateValue → Type 0
Told cpu source e s t =
    let filled = has_nodes (cpu_at s cpu) in
    After cpu source (filled_next cpu filled e) (owed_next cpu source filled (owes s cpu source) e) s t

told_call : (cpu source actor : ℕ) (e : CallEvent) (s t : StateValue) → Two cpu source s → goes actor (event.Call e) s ≡ Ok t
    → Told cpu source (actor, event.Call e) s t
unfolding call_goes
told_call cpu source actor (calls.Queue id to class func info) s t two e = after_queue cpu source actor id to class func info s t two e
told_call cpu source actor (calls.QueueOther to node) s t two e = after_other cpu source actor to s t two e
told_call cpu source actor (calls.Free id) s t two e = after_kept cpu source s t two (keeps_told s t two.told (keeps_freed id s t e))
told_call cpu source actor (calls.Send to) s t two e = after_send cpu source actor to s t two e
told_call cpu source actor calls.Accept s t two e = after_accept cpu source actor s t two e
told_call cpu source actor calls.Idle s t two e =
    let m = both_made (idle_by actor s) (λ u. Ok s) t e in
    after_end cpu source (has_nodes (cpu_at s cpu)) (owes s cpu source) s s t (cc) (after_kept cpu source s s two (keeps_refl false s))
told_call cpu source actor calls.Take s t two e = after_take cpu source actor s t two e
told_call cpu source actor (calls.Unlock id) s t two e = after_kept cpu source s t two (keeps_unlock false actor id s t e)
told_call cpu source actor (calls.Begin id func info) s t two e =
    after_kept cpu source s t two (keeps_told s t two.told (keeps_begin actor id func info s t e))
told_call cpu source actor (calls.End id) s t two e = after_kept cpu source s t two (keeps_ended false actor id s t e)

told_goes : (cpu source actor : ℕ) (e : Event) (s t : StateValue) → Two cpu source s → goes actor e s ≡ Ok t → Told cpu source (actor, e) s t
told_goes cpu source actor (event.Call e) s t two g = told_call cpu source actor e s t two g
told_goes cpu source actor (event.Stop e) s t two g = after_kept cpu source s t two (keeps_kept false s t (stop_keeps_calls actor e s t g))
told_goes cpu source actor (event.Label e) s t two g =
    after_kept cpu source s t two (keeps_kept false s t (label_keeps_calls actor e s t (low_event actor _ t g).1))

-- and so does a run of them
told_runs : (cpu source : ℕ) (es : List (ℕ × Event)) (s t : StateValue) → Two cpu source s → RunsOf s es t
    → owes t cpu source ≡ owed_from cpu source (has_nodes (cpu_at s cpu)) (owes s cpu source) es
unfolding owed_from
told_runs cpu source [] s t two run = ap (λ x. owes x cpu source) run
told_runs cpu source (e ∷ es) s t two (m, (g, run)) =
    let told = told_goes cpu source e.0 e.1 s m two g in
    let goes = (event_shows s.setting.without.order cpu e.0 e.1 s m refl two.below g).goes in
    let two_m : Two cpu source m = record {
      told = ap (λ u. u.without.order) goes.setting_is ∙ two.told;
      below = rw goes.cpus_are two.below;
      low = rw goes.cpus_are two.low;
      within = rw told.long two.within;
    } in
    told_runs cpu source es m t two_m run ∙ ap (λ b. owed_from cpu source b (owes m cpu source) es) told.nodes
    ∙ ap (λ b. owed_from cpu source (filled_next cpu (has_nodes (cpu_at s cpu)) e) b es) told.owed_is

pub interrupts_are_owed : OfEachTrace InterruptIsOwed
interrupts_are_owed u words es t run cpu below told source low =
    let first = opening u words in
    let here = fresh_at u words cpu in
    let there = fresh_at u words source in
    let two : Two cpu source first = record {
      told = ap (λ v. v.without.order) (setting_at_first u words) ∙ told;
      below = rw (cpus_at_first u words) below;
      low = rw (cpus_at_first u words) low;
      within = rw (ap (λ c. length c.owes) there ∙ length-replicate {A = Bool} 512 false) below;
    } in
    told_runs cpu source es first t two run ∙ ap (λ c. owed_from cpu source (has_nodes c) (owes first cpu source) es) here
    ∙ ap (λ b. owed_from cpu source false b es) (ap (λ c. slice_index_or c.owes cpu false) there ∙ get_or-same false 512 cpu)
