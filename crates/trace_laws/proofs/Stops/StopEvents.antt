-- Each event of stops keeps what holds of CPUs in stops.
use Rattle.trace_laws.proofs.Names.{Bool, Err, None, Ok, Option, Reason, Result, Seen, Some, StateValue, Stop, Task, acked_by, and_parts, ap, arith}
use Rattle.trace_laws.proofs.Names.{at_phase, cases_lt, closed, cpu_at, enter_by, enter_from, entered, entered_open, eqb-true, false}
use Rattle.trace_laws.proofs.Names.{get_or-set_other, get_or-set_same, get_or_past, handles_nothing, has, if◌then◌else◌, in_round, in_stop, inl, inr, is_called}
use Rattle.trace_laws.proofs.Names.{length, length-set, lt-ltb, ltb-false, ltb-true, may_off, nat_lt, not, off_by, on_by, on_stop, refl, slice_index_or}
use Rattle.trace_laws.proofs.Names.{slice_set, stop_at, stop_of, subst, sym, through, true, with_cpu, with_inside, with_interrupts, with_irq, with_stop, ℕ}
use Rattle.trace_laws.proofs.Names.{◌&&◌, ◌<◌, ◌>>=◌, ◌∙◌, ◌≡◌, ◌≢◌, ◌≤◌, ◌⊎◌}
use Rattle.std.proofs.{lemmas.Bool.leb-false, lemmas.List.set-get_or}
use Rattle.trace_model.specs.declared.reason.Reason.TheVariants as reason
use Rattle.trace_laws.proofs.Stops.CpusInStops.{Change, Member, RoundAt, Rounds, changed, changed_to, is_round, put_seen}
use Rattle.trace_laws.proofs.{Calls.MadeSteps.both_made, Calls.MadeSteps.failed, Calls.MadeSteps.passed}
use Rattle.smp_words.specs.declared.phase.TheConstants.{DISABLE_IRQ, EXIT}

pub stop_of_is : (s : StateValue) (cpu number : ℕ) → stop_of cpu s ≡ Ok number → ((cpu_at s cpu).inside ≡ Some number) × (number < 64)
stop_of_is s cpu number e = search (passed, ltb-true, arith)

-- A CPU is in a rendezvous.
pub record InRound (s : StateValue) (cpu number : ℕ) : Type 0 where
  pub inside : (cpu_at s cpu).inside ≡ Some number
  pub low : number < 64
  pub round : is_round (stop_at s number).task.kind ≡ true

pub in_round_is : (s : StateValue) (cpu number : ℕ) → in_round cpu s ≡ Ok number → InRound s cpu number
in_round_is s cpu number h1 = search (both_made, stop_of_is, arith)

-- a CPU in a stop is below 32
pub actor_below : (s : StateValue) (cpu number : ℕ) → length s.cpus ≡ 512 → ((x : ℕ) → 32 ≤ x → x < 512 → (cpu_at s x).inside ≡ None)
    → (cpu_at s cpu).inside ≡ Some number → cpu < 32
actor_below s cpu number h1 h2 h3 = search (cases_lt, get_or_past, arith)

-- it is in no other stop
pub other_stop : (inside : Option ℕ) (number other : ℕ) → inside ≡ Some number → other ≢ number → inside ≡ Some other → ⊥
other_stop inside number other is ne e = ne (let f : Some other ≡ Some number = sym e ∙ is in cc)

-- of a CPU in one stop, other stops stay as they were
pub away_same : (left_out : Bool) (number other cpu : ℕ) (v v' : Seen) (w : Member) (inside : Option ℕ) (irq irq' : Bool) → inside ≡ Some number →
    other ≢ number
    → RoundAt left_out other cpu v w inside irq → RoundAt left_out other cpu v' w inside irq'
away_same left_out number other cpu v v' w inside irq irq' h1 h2 h3 = search (other_stop, arith)

-- when it leaves
pub away_left : (left_out : Bool) (number other cpu : ℕ) (v v' : Seen) (w : Member) (inside : Option ℕ) (irq irq' : Bool) → inside ≡ Some number →
    other ≢ number
    → RoundAt left_out other cpu v w inside irq → RoundAt left_out other cpu v' w None irq'
away_left left_out number other cpu v v' w inside irq irq' h1 h2 h3 = search (other_stop, arith)

-- what holds of a state holds of an equal one
pub rounds_end : (seen : ℕ → Seen) (work : ℕ → Option Task) (s t : StateValue) → s ≡ t → Rounds seen work s → Rounds seen work t
rounds_end seen work s t same r = subst (λ (x : StateValue). Rounds seen work x) same r

pub view_same : (left_out : Bool) (number cpu : ℕ) (v : Seen) (w w' : Member) (inside : Option ℕ) (irq : Bool) → w ≡ w' →
    RoundAt left_out number cpu v w inside irq
    → RoundAt left_out number cpu v w' inside irq
view_same left_out number cpu v w w' inside irq same r = subst (λ (x : Member). RoundAt left_out number cpu v x inside irq) same r

pub stop_same : (number : ℕ) (s : StateValue) → with_stop number s (stop_at s number) ≡ s
stop_same number s = ap (λ stops. record s { stops = stops }) (set-get_or s.stops number (closed 0))

-- two names are not one where one is apart
pub ne_truth : (b : Bool) → b ≡ true → b ≡ false → ⊥
ne_truth b t f = cc

-- a CPU enters
not_entered : (mask entered : Bool) → (mask && not entered) ≡ true → (mask ≡ true) × (entered ≡ false)
not_entered mask entered e = search arith

abbrev pub enters : ℕ → Seen → Seen
enters number v = record { inside = Some number; acked = 0; ran = false; irq = v.irq }

entered_change : (seen : ℕ → Seen) (work : ℕ → Option Task) (s : StateValue) (number actor : ℕ) → Rounds seen work s → number < 64 → actor < 32
    → (cpu_at s actor).inside ≡ None → (stop_at s number).is_open ≡ true → is_called (stop_at s number) actor ≡ true
    → let stop = stop_at s number in
    Change seen work s number actor (enters number) (record stop { entered = slice_set stop.entered actor true }) (in_stop (Some number) (cpu_at s actor))
entered_change seen work s number actor r low below none opened_is called =
    let stop = stop_at s number in
    let old = r.at number low actor below in
    let st = r.stop number low in
    let q = r.cpu actor below in
    let c = not_entered (has stop.task.mask actor) (slice_index_or stop.entered actor false) called in
    let out = old.out c.1 in
    let now : slice_index_or (slice_set stop.entered actor true) actor false ≡ true = get_or-set_same stop.entered actor true false (rw st.entered_are below) in
    record {
      low = below;
      stop_is = search (stop.entered, st.entered_are, st.acked_are, st.ran_are, st.answers_are, st.work_is, length-set, arith);
      cpu_is = search (q.quiet, q.irq_is, arith);
      others = search (stop.entered, s.setting.without.raises, stop, r.at, get_or-set_other, view_same, arith);
      elsewhere = λ other other_low ne.
          search (other_stop, arith);
      here = search (ne_truth, arith);
    }

-- where the events of each CPU tell the same, the same holds
pub rounds_seen : (seen seen' : ℕ → Seen) (work : ℕ → Option Task) (s : StateValue) → ((cpu : ℕ) → cpu < 32 → seen' cpu ≡ seen cpu) → Rounds seen work s →
    Rounds seen' work s
rounds_seen seen seen' work s h1 h2 = search arith

enter_open : (seen : ℕ → Seen) (work : ℕ → Option Task) (s t : StateValue) (number actor : ℕ) → Rounds seen work s → actor < 32
    → (cpu_at s actor).inside ≡ None → entered_open actor number s ≡ Ok t → Rounds (put_seen actor (enters number) seen) work t
unfolding entered
enter_open seen work s t number actor r below none e =
    let stop = stop_at s number in
    let made = on_stop number s (entered actor stop) in
    let p = passed (nat_lt number 64 && stop.is_open) (made >>= λ x. Ok (with_inside actor (Some number) x)) (reason.StopNotOpen number) t e in
    let q = and_parts (nat_lt number 64) stop.is_open p.0 in
    let low = ltb-true number 64 q.0 in
    let m = both_made made (λ x. Ok (with_inside actor (Some number) x)) t p.1 in
    let n = both_made (entered actor stop) (λ x. Ok (with_stop number s x)) m.0 m.1.0 in
    let to = record stop { entered = slice_set stop.entered actor true } in
    let k = passed (is_called stop actor) (Ok to) (reason.NotCalled actor) n.0 n.1.0 in
    let a : to ≡ n.0 = cc in
    let b : with_stop number s n.0 ≡ m.0 = cc in
    let same : with_inside actor (Some number) (with_stop number s to) ≡ t = ap (λ x. with_inside actor (Some number) (with_stop number s x)) a ∙
    ap (λ x. with_inside actor (Some number) x) b ∙ cc in
    rounds_end (put_seen actor (enters number) seen) work (with_inside actor (Some number) (with_stop number s to)) t same
    (changed seen work s number actor (enters number) to (in_stop (Some number) (cpu_at s actor)) r
    (entered_change seen work s number actor r low below none q.1 k.0))

pub enter_as : (seen : ℕ → Seen) (work : ℕ → Option Task) (s t : StateValue) (number actor : ℕ) (inside : Result ℕ Reason) → Rounds seen work s →
    actor < 32 → stop_of actor s ≡ inside
    → enter_from inside actor number s ≡ Ok t → Rounds (put_seen actor (enters number) seen) work t
enter_as seen work s t number actor (Ok x) r below is e = absurd cc
enter_as seen work s t number actor (Err why) r below is e =
    enter_open seen work s t number actor r below (search (lt-ltb, arith)) e

pub enter_rounds : (seen : ℕ → Seen) (work : ℕ → Option Task) (s t : StateValue) (number actor : ℕ) → Rounds seen work s → actor < 32
    → enter_by actor number s ≡ Ok t → Rounds (put_seen actor (enters number) seen) work t
unfolding enter_by
enter_rounds seen work s t number actor r below e = enter_as seen work s t number actor (stop_of actor s) r below refl e

-- a CPU may act on a phase
pub acts_at : (stop : Stop) (cpu phase : ℕ) (u : Unit {0}) → at_phase stop cpu phase ≡ Ok u → (acked_by stop cpu < phase) × (stop.phase ≡ phase)
acts_at stop cpu phase u h1 = search (failed, leb-false, eqb-true, arith)

abbrev pub off_seen : Seen → Seen
off_seen v = record v { irq = false }

abbrev pub on_seen : Seen → Seen
on_seen v = record v { irq = true }

-- what is changed where a CPU in a stop changes its interrupts alone
pub irq_change : (seen : ℕ → Seen) (work : ℕ → Option Task) (s : StateValue) (number actor : ℕ) (f : Seen → Seen) (on : Bool) → Rounds seen work s → number < 64
    → (cpu_at s actor).inside ≡ Some number → (f (seen actor)).inside ≡ (seen actor).inside → (s.setting.without.switches ≡ false → on ≡ (f (seen actor)).irq)
    → (f (seen actor)).acked ≡ (seen actor).acked → (f (seen actor)).ran ≡ (seen actor).ran
    → (on ≡ false → handles_nothing (cpu_at s actor) ≡ Ok tt) → (on ≡ false ⊎ EXIT ≤ acked_by (stop_at s number) actor)
    → Change seen work s number actor f (stop_at s number) (with_interrupts on (cpu_at s actor))
irq_change seen work s number actor f on r low is inside irq acked_kept ran_kept quiet may =
    let below = actor_below s actor number r.cpus_are r.away is in
    let old = r.at number low actor below in
    let q = r.cpu actor below in
    record {
      low = below;
      stop_is = r.stop number low;
      cpu_is = search (below, q.below, q.inside_is, arith);
      others = λ cpu cpu_low ne. r.at number low cpu cpu_low;
      elsewhere = search (s.setting.without.raises, r.at, below, away_same, arith);
      here = search arith;
    }

pub irq_changed : (seen : ℕ → Seen) (work : ℕ → Option Task) (s : StateValue) (number actor : ℕ) (f : Seen → Seen) (on : Bool) → Rounds seen work s
    → Change seen work s number actor f (stop_at s number) (with_interrupts on (cpu_at s actor)) → Rounds (put_seen actor f seen) work (with_irq actor on s)
irq_changed seen work s number actor f on r ch =
    rounds_end (put_seen actor f seen) work (changed_to number actor s (stop_at s number) (with_interrupts on (cpu_at s actor))) (with_irq actor on s)
    (ap (λ x. with_cpu actor x (with_interrupts on (cpu_at s actor))) (stop_same number s))
    (changed seen work s number actor f (stop_at s number) (with_interrupts on (cpu_at s actor)) r ch)

pub off_rounds : (seen : ℕ → Seen) (work : ℕ → Option Task) (s t : StateValue) (actor : ℕ) → Rounds seen work s → off_by actor s ≡ Ok t →
    Rounds (put_seen actor off_seen seen) work t
unfolding off_by
off_rounds seen work s t actor r e =
    let m = both_made (in_round actor s) (λ number. may_off actor number s >>= λ u. Ok (with_irq actor false s)) t e in
    let i = in_round_is s actor m.0 m.1.0 in
    let n = both_made (may_off actor m.0 s) (λ u. Ok (with_irq actor false s)) t m.1.1 in
    let p = passed (cpu_at s actor).irq (at_phase (stop_at s m.0) actor DISABLE_IRQ >>= λ u. handles_nothing (cpu_at s actor)) reason.InterruptsOff n.0 n.1.0 in
    let h = both_made (at_phase (stop_at s m.0) actor DISABLE_IRQ) (λ u. handles_nothing (cpu_at s actor)) n.0 p.1 in
    rounds_end (put_seen actor off_seen seen) work (with_irq actor false s) t (cc)
    (irq_changed seen work s m.0 actor off_seen false r
    (irq_change seen work s m.0 actor off_seen false r i.low i.inside refl (λ told. refl) refl refl (λ off. h.1.1) (inl refl)))

pub through_is : (stop : Stop) (cpu : ℕ) (u : Unit {0}) → through stop cpu ≡ Ok u → EXIT ≤ acked_by stop cpu
through_is stop cpu u e = search (failed, ltb-false, arith)

pub on_rounds : (seen : ℕ → Seen) (work : ℕ → Option Task) (s t : StateValue) (actor : ℕ) → Rounds seen work s → on_by actor s ≡ Ok t →
    Rounds (put_seen actor on_seen seen) work t
unfolding on_by
on_rounds seen work s t actor r e =
    let next = λ (number : ℕ). through (stop_at s number) actor >>= λ u. Ok (with_irq actor true s) in
    let m = both_made (in_round actor s) (λ number. if (cpu_at s actor).irq then Err reason.InterruptsOn else next number) t e in
    let i = in_round_is s actor m.0 m.1.0 in
    let p = failed (cpu_at s actor).irq (next m.0) reason.InterruptsOn t m.1.1 in
    let n = both_made (through (stop_at s m.0) actor) (λ u. Ok (with_irq actor true s)) t p.1 in
    rounds_end (put_seen actor on_seen seen) work (with_irq actor true s) t (cc)
    (irq_changed seen work s m.0 actor on_seen true r
    (irq_change seen work s m.0 actor on_seen true r i.low i.inside refl (λ told. refl) refl refl (λ off. absurd cc) (inr (through_is
    (stop_at s m.0) actor n.0 n.1.0))))
