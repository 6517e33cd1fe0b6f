-- A stop is open, and a CPU holds the gate, as the events tell.
use Rattle.trace_laws.proofs.Names.{Bool, Err, Event, IsTrace, Key, LabelEvent, LabelWords, List, None, Ok, Option, Patch, Place, Reason, Result, Runs, Setting}
use Rattle.trace_laws.proofs.Names.{Site, Some, StateValue, Stop, StopEvent, Task, [], ack_by, acked, acknowledged, and_parts, ap, arith, cases_eq, cases_lt}
use Rattle.trace_laws.proofs.Names.{closed, collect_by, collected, collected_with, complete_by, completed, cpu_at, enter_by, enter_from, entered, entered_open}
use Rattle.trace_laws.proofs.Names.{eq-eqb, eqb-true, false, gate_by, gate_with, goes, if◌then◌else◌, in_patch, in_round, inside_goes, is_store, key_by}
use Rattle.trace_laws.proofs.Names.{label_goes, length, length-replicate, length-set, ltb-true, made_store, may_ack, may_open, nat_lt, ne_eqb, next_store, not}
use Rattle.trace_laws.proofs.Names.{on_stop, open_by, open_closed, opened, patch_by, patch_left, popped, raise_by, raised, refl, run_by, set_past, site_by}
use Rattle.trace_laws.proofs.Names.{site_word, slice_set, stop_at, stop_goes, stop_of, subst, switched, switched_on, sym, to_be, true, unfinished, ungate_by}
use Rattle.trace_laws.proofs.Names.{with_inside, with_irq, with_patch, with_stop, with_word, ℕ, ℤ, ◌&&◌, ◌++◌, ◌<◌, ◌==◌, ◌>>=◌, ◌∙◌, ◌∷◌, ◌≡◌}
use Rattle.trace_model.specs.declared.event.Event.TheVariants as event
use Rattle.trace_model.specs.declared.event.LabelEvent.TheVariants as labels
use Rattle.trace_model.specs.declared.event.StopEvent.TheVariants as stops
use Rattle.trace_model.specs.declared.reason.Reason.TheVariants as reason
use Rattle.trace_model.specs.{Opened.opening as at_first, Stop.opening, Stops.holder_is}
use Rattle.trace_laws.proofs.{Calls.MadeSteps.both_made, Calls.MadeSteps.failed, Calls.MadeSteps.low_event, Calls.MadeSteps.passed}
use Rattle.trace_laws.proofs.Labels.LawfulLabels.{off_is, on_is}
use Rattle.trace_laws.proofs.Labels.PatchPhases.{may_is}
use Rattle.trace_laws.proofs.Stops.AtRun.{runs_last, setting_at_first, setting_runs, stop_at_first}
use Rattle.trace_laws.proofs.Stops.CpusInStops.{stop_changed, stop_kept}
use Rattle.trace_laws.proofs.Stops.Ends.{collected_is, completed_is, opened_is, run_is}
use Rattle.trace_laws.proofs.Stops.Phases.{raised_is}
use Rattle.trace_laws.proofs.Stops.QuietCpus.{call_keeps_rounds}
use Rattle.smp_words.specs.declared.phase.TheConstants.{OVER}
use Rattle.trace_laws.specs.OpenStops.{FindsGate, FindsStop, GateIsOfOne, StopsOpenOnce, holder, holder_from, holder_next, is_open, is_open_from, is_open_next}

-- The gate is as it was, and so is each stop open or not.
pub record KeepsOpen (s t : StateValue) : Type 0 where
  pub stops_are : length t.stops ≡ length s.stops
  pub gate_is : t.gate ≡ s.gate
  pub open_is : (number : ℕ) → (stop_at t number).is_open ≡ (stop_at s number).is_open

keeps_end : (s t u : StateValue) → t ≡ u → KeepsOpen s t → KeepsOpen s u
keeps_end s t u same k = subst (λ (x : StateValue). KeepsOpen s x) same k

keeps_same : (s t : StateValue) → t.stops ≡ s.stops → t.gate ≡ s.gate → KeepsOpen s t
keeps_same s t h1 h2 = search arith

keeps_then : (s m t : StateValue) → KeepsOpen s m → KeepsOpen m t → KeepsOpen s t
keeps_then s m t h1 h2 = search arith

keeps_if : (s x y : StateValue) (test : Bool) → KeepsOpen s x → KeepsOpen s y → KeepsOpen s (if test then x else y)
keeps_if s x y test h1 h2 = search arith

-- a stop is changed, and is open or not as it was
keeps_put : (number : ℕ) (s : StateValue) (stop : Stop) → stop.is_open ≡ (stop_at s number).is_open → KeepsOpen s (with_stop number s stop)
keeps_put number s stop same = search (length-set, cases_eq, cases_lt, stop_changed, stop_kept, set_past, arith)

keeps_stop : (number : ℕ) (s t : StateValue) (made : Result Stop Reason) → ((to : Stop) → made ≡ Ok to → to.is_open ≡ (stop_at s number).is_open)
    → on_stop number s made ≡ Ok t → KeepsOpen s t
keeps_stop number s t made kept e =
    let m = both_made made (λ x. Ok (with_stop number s x)) t e in keeps_end s (with_stop number s m.0) t (cc) (keeps_put number s m.0 (kept m.0 m.1.0))

-- a state is made after a test
keeps_after : {A : Type 0} (s t u : StateValue) (test : Result A Reason) → (test >>= λ u. Ok t) ≡ Ok u → KeepsOpen s t → KeepsOpen s u
keeps_after s t u test e k = let m = both_made test (λ u. Ok t) u e in keeps_end s t u (cc) k

entered_open_is : (stop to : Stop) (cpu : ℕ) → entered cpu stop ≡ Ok to → to.is_open ≡ stop.is_open
unfolding entered
entered_open_is stop to cpu h1 = search (passed, arith)

keeps_entered : (cpu number : ℕ) (s t : StateValue) → entered_open cpu number s ≡ Ok t
    → KeepsOpen s t × ((number < 64) × ((stop_at s number).is_open ≡ true))
keeps_entered cpu number s t e =
    let made = on_stop number s (entered cpu (stop_at s number)) in
    let p = passed (nat_lt number 64 && (stop_at s number).is_open) (made >>= λ x. Ok (with_inside cpu (Some number) x)) (reason.StopNotOpen number) t e in
    let b = and_parts (nat_lt number 64) (stop_at s number).is_open p.0 in
    let m = both_made made (λ x. Ok (with_inside cpu (Some number) x)) t p.1 in (
      keeps_end s (with_inside cpu (Some number) m.0) t (cc)
          (keeps_then s m.0 (with_inside cpu (Some number) m.0)
          (keeps_stop number s m.0 (entered cpu (stop_at s number)) (λ to made. entered_open_is (stop_at s number) to cpu made) m.1.0)
          (keeps_same m.0 (with_inside cpu (Some number) m.0) refl refl)),
      (ltb-true number 64 b.0, b.1),
    )

keeps_enter_from : (inside : Result ℕ Reason) (cpu number : ℕ) (s t : StateValue) → enter_from inside cpu number s ≡ Ok t
    → KeepsOpen s t × ((number < 64) × ((stop_at s number).is_open ≡ true))
keeps_enter_from (Ok inside) cpu number s t e = absurd cc
keeps_enter_from (Err why) cpu number s t e = keeps_entered cpu number s t e

keeps_enter : (cpu number : ℕ) (s t : StateValue) → enter_by cpu number s ≡ Ok t
    → KeepsOpen s t × ((number < 64) × ((stop_at s number).is_open ≡ true))
unfolding enter_by
keeps_enter cpu number s t e = keeps_enter_from (stop_of cpu s) cpu number s t e

acknowledged_is : (cpu phase : ℕ) (raises : Bool) (stop : Stop) → (acknowledged cpu phase raises stop).is_open ≡ stop.is_open
unfolding acknowledged
acknowledged_is cpu phase raises stop = search arith

keeps_switched : (s : StateValue) (cpu number phase : ℕ) → KeepsOpen s (switched cpu number phase s)
keeps_switched s cpu number phase = search (keeps_if, keeps_same, arith)

keeps_ack : (cpu phase : ℕ) (s t : StateValue) → ack_by cpu phase s ≡ Ok t → KeepsOpen s t
unfolding ack_by
keeps_ack cpu phase s t e =
    let m = both_made (in_round cpu s) (λ number. may_ack cpu number phase s >>= λ x. Ok (acked cpu number phase x)) t e in
    let n = both_made (may_ack cpu m.0 phase s) (λ x. Ok (acked cpu m.0 phase x)) t m.1.1 in
    let k = (may_is s n.0 m.0 cpu phase n.1.0).0 in
    let raises = not n.0.setting.without.raises in
    let u = with_stop m.0 n.0 (acknowledged cpu phase raises (stop_at n.0 m.0)) in
    keeps_end s (acked cpu m.0 phase n.0) t (cc)
    (keeps_then s n.0 (acked cpu m.0 phase n.0)
    (keeps_end s (with_stop m.0 s (record (stop_at s m.0) { patch = k.patch })) n.0 (sym k.is)
    (keeps_put m.0 s (record (stop_at s m.0) { patch = k.patch }) refl))
    (keeps_then n.0 u (acked cpu m.0 phase n.0)
    (keeps_put m.0 n.0 (acknowledged cpu phase raises (stop_at n.0 m.0)) (acknowledged_is cpu phase raises (stop_at n.0 m.0)))
    (keeps_switched u cpu m.0 phase)))

raised_open_is : (cpu phase : ℕ) (stop to : Stop) → raised cpu phase stop ≡ Ok to → to.is_open ≡ stop.is_open
unfolding raised
raised_open_is cpu phase stop to h1 = search (passed, raised_is, arith)

keeps_raise : (cpu phase : ℕ) (s t : StateValue) → raise_by cpu phase s ≡ Ok t → KeepsOpen s t
unfolding raise_by
keeps_raise cpu phase s t e =
    let m = both_made (in_round cpu s) (λ number. on_stop number s (raised cpu phase (stop_at s number)) >>= λ x. Ok (switched_on cpu phase x)) t e in
    let made = raised cpu phase (stop_at s m.0) in
    let n = both_made (on_stop m.0 s made) (λ x. Ok (switched_on cpu phase x)) t m.1.1 in
    let old = keeps_stop m.0 s n.0 made (λ to made. raised_open_is cpu phase (stop_at s m.0) to made) n.1.0 in
    keeps_end s (switched_on cpu phase n.0) t (cc)
    (keeps_if s (with_irq cpu true n.0) n.0 (n.0.setting.without.switches && (phase == OVER))
    (keeps_then s n.0 (with_irq cpu true n.0) old (keeps_same n.0 (with_irq cpu true n.0) refl refl)) old)

keeps_run : (cpu func arg : ℕ) (s t : StateValue) → run_by cpu func arg s ≡ Ok t → KeepsOpen s t
keeps_run cpu func arg s t e =
    let i = run_is s t cpu func arg e in
    let to = record (stop_at s i.0.number) { ran = slice_set (stop_at s i.0.number).ran cpu true } in
    keeps_end s (with_stop i.0.number s to) t i.1 (keeps_put i.0.number s to refl)

keeps_complete : (cpu : ℕ) (answer : ℤ) (s t : StateValue) → complete_by cpu answer s ≡ Ok t → KeepsOpen s t
unfolding complete_by
keeps_complete cpu answer s t e =
    let made = λ (number : ℕ). completed cpu answer (cpu_at s cpu).irq (stop_at s number) in
    let m = both_made (stop_of cpu s) (λ number. on_stop number s (made number) >>= λ x. Ok (with_inside cpu None x)) t e in
    let n = both_made (on_stop m.0 s (made m.0)) (λ x. Ok (with_inside cpu None x)) t m.1.1 in
    keeps_end s (with_inside cpu None n.0) t (cc)
    (keeps_then s n.0 (with_inside cpu None n.0)
    (keeps_stop m.0 s n.0 (made m.0) (λ to is. ap (λ x. x.is_open) (sym (completed_is (stop_at s m.0) to cpu answer (cpu_at s cpu).irq is).1)) n.1.0)
    (keeps_same n.0 (with_inside cpu None n.0) refl refl))

keeps_made_store : (next : Option (Place × ℕ)) (number : ℕ) (patch : Patch) (place : Place) (word : ℕ) (s t : StateValue)
    → made_store next number patch place word s ≡ Ok t → KeepsOpen s t
keeps_made_store None number patch place word s t e = absurd cc
keeps_made_store (Some next) number patch place word s t e =
    let m = with_word place word s in
    let u = with_patch number (popped patch place) m in
    let p = passed (is_store next place word) (Ok u) (to_be next) t e in
    let to = record (stop_at m number) { patch = Some (popped patch place) } in
    keeps_end s u t (cc) (keeps_then s m u (keeps_same s m refl refl) (keeps_put number m to refl))

keeps_patch : (cpu : ℕ) (place : Place) (word : ℕ) (s t : StateValue) → patch_by cpu place word s ≡ Ok t → KeepsOpen s t
unfolding patch_by
keeps_patch cpu place word s t e =
    let m = both_made (in_patch cpu s) (λ number. made_store (next_store number s) number (patch_left number s) place word s) t e in
    keeps_made_store (next_store m.0 s) m.0 (patch_left m.0 s) place word s t m.1.1

keeps_label : (cpu : ℕ) (e : LabelEvent) (s t : StateValue) → label_goes cpu e s ≡ Ok t → KeepsOpen s t
unfolding label_goes
keeps_label cpu (labels.Set key count) s t e = keeps_patch cpu (Key key) count s t e
keeps_label cpu (labels.Turn site jumps) s t e = keeps_patch cpu (Site site) (site_word jumps) s t e
keeps_label cpu (labels.Key key on) s t e = keeps_after s s t (key_by cpu key on s) e (keeps_same s s refl refl)
keeps_label cpu (labels.Site site jumps) s t e = keeps_after s s t (site_by cpu site jumps s) e (keeps_same s s refl refl)
keeps_label cpu (labels.Nudge key up) s t e = search (both_made, keeps_end, keeps_same, arith)

-- What the events tell is so.
pub record IsTold (opens : ℕ → Bool) (holds : Option ℕ) (s : StateValue) : Type 0 where
  pub stops_are : length s.stops ≡ 64
  pub open_is : (number : ℕ) → number < 64 → (stop_at s number).is_open ≡ opens number
  pub gate_is : s.gate ≡ holds

told_kept : (opens : ℕ → Bool) (holds : Option ℕ) (s t : StateValue) → IsTold opens holds s → KeepsOpen s t → IsTold opens holds t
told_kept opens holds s t h1 h2 = search arith

told_end : (opens : ℕ → Bool) (holds : Option ℕ) (s t : StateValue) → s ≡ t → IsTold opens holds s → IsTold opens holds t
told_end opens holds s t same told = subst (λ (x : StateValue). IsTold opens holds x) same told

-- a stop is opened or closed
told_put : (opens : ℕ → Bool) (holds : Option ℕ) (number : ℕ) (s : StateValue) (stop : Stop) (is : Bool) → stop.is_open ≡ is → number < 64
    → IsTold opens holds s → IsTold (λ n. if number == n then is else opens n) holds (with_stop number s stop)
told_put opens holds number s stop is h1 h2 h3 = search (length-set, cases_eq, eq-eqb, ne_eqb, stop_changed, stop_kept, arith)

holder_was : (holds : Option ℕ) (cpu : ℕ) (u : Unit {0}) → holder_is holds cpu ≡ Ok u → holds ≡ Some cpu
holder_was holds cpu u h1 = search (passed, eqb-true, arith)

pub gate_is : (holds : Option ℕ) (cpu : ℕ) (s t : StateValue) → gate_with holds cpu s ≡ Ok t → (holds ≡ None) × (record s { gate = Some cpu } ≡ t)
gate_is holds cpu s t h1 = search arith

pub ungate_is : (cpu : ℕ) (s t : StateValue) → ungate_by cpu s ≡ Ok t → (s.gate ≡ Some cpu) × (record s { gate = None } ≡ t)
unfolding ungate_by
ungate_is cpu s t h1 = search (both_made, holder_was, arith)

may_open_is : (left_out : Bool) (cpu : ℕ) (s : StateValue) (u : Unit {0}) → may_open left_out cpu s ≡ Ok u → left_out ≡ false → s.gate ≡ Some cpu
may_open_is left_out cpu s u h1 h2 = search (holder_was, arith)

-- What an event that opens a stop finds, and what it makes.
pub record Opens (s t : StateValue) (cpu number : ℕ) (task : Task) : Type 0 where
  pub low : number < 64
  pub shut : (stop_at s number).is_open ≡ false
  pub held : s.setting.without.gate ≡ false → s.gate ≡ Some cpu
  pub made : with_stop number s (opening task) ≡ t

pub open_is : (s t : StateValue) (cpu number : ℕ) (task : Task) → open_by cpu number task s ≡ Ok t → Opens s t cpu number task
unfolding open_by
open_is s t cpu number task e =
    let o = passed (nat_lt number 64) (open_closed cpu number task s) reason.NoSuchWork t e in
    let next = on_stop number s (opened s.setting task) in
    let p = failed (stop_at s number).is_open (may_open s.setting.without.gate cpu s >>= λ u. next) (reason.StopOpen number) t o.1 in
    let m = both_made (may_open s.setting.without.gate cpu s) (λ u. next) t p.1 in
    let n = both_made (opened s.setting task) (λ x. Ok (with_stop number s x)) t m.1.1 in
    record {
      low = ltb-true number 64 o.0;
      shut = p.0;
      held = may_open_is s.setting.without.gate cpu s m.0 m.1.0;
      made = ap (λ x. with_stop number s x) (opened_is s.setting task n.0 n.1.0) ∙ cc;
    }

-- What an event that collects a result finds, and what it makes.
pub record Collects (s t : StateValue) (number : ℕ) : Type 0 where
  pub low : number < 64
  pub is : (stop_at s number).is_open ≡ true
  pub made : with_stop number s (record (stop_at s number) { is_open = false }) ≡ t

collect_is : (s t : StateValue) (number : ℕ) (answer : ℤ) → collect_by number answer s ≡ Ok t → Collects s t number
unfolding collect_by collected
collect_is s t number answer e =
    let stop = stop_at s number in
    let made = collected_with (unfinished stop) answer stop in
    let p = passed (nat_lt number 64 && stop.is_open) (on_stop number s made) (reason.StopNotOpen number) t e in
    let b = and_parts (nat_lt number 64) stop.is_open p.0 in
    let m = both_made made (λ x. Ok (with_stop number s x)) t p.1 in
    record {
      low = ltb-true number 64 b.0;
      is = b.1;
      made = ap (λ x. with_stop number s x) (collected_is (unfinished stop) stop m.0 answer m.1.0).1 ∙ cc;
    }

-- what all the events tell of stops, after one more
abbrev opens_all : (ℕ → Bool) → ℕ × Event → ℕ → Bool
opens_all opens e number = is_open_next number (opens number) e

stop_told : (opens : ℕ → Bool) (holds : Option ℕ) (cpu : ℕ) (e : StopEvent) (s t : StateValue) → IsTold opens holds s → stop_goes cpu e s ≡ Ok t
    → IsTold (opens_all opens (cpu, event.Stop e)) (holder_next holds (cpu, event.Stop e)) t
unfolding stop_goes inside_goes gate_by
stop_told opens holds cpu stops.Gate s t h e =
    told_end opens (Some cpu) (record s { gate = Some cpu }) t (gate_is s.gate cpu s t e).1
    (record { stops_are = h.stops_are; open_is = h.open_is; gate_is = refl })
stop_told opens holds cpu stops.Ungate s t h e =
    told_end opens None (record s { gate = None }) t (ungate_is cpu s t e).1
    (record { stops_are = h.stops_are; open_is = h.open_is; gate_is = refl })
stop_told opens holds cpu (stops.Open number task) s t h e =
    let o = open_is s t cpu number task e in
    told_end (opens_all opens (cpu, event.Stop (stops.Open number task))) holds (with_stop number s (opening task)) t o.made
    (told_put opens holds number s (opening task) true refl o.low h)
stop_told opens holds cpu (stops.Enter number) s t h e = told_kept opens holds s t h (keeps_enter cpu number s t (low_event cpu _ t e).1).0
stop_told opens holds cpu (stops.Ack phase) s t h e = told_kept opens holds s t h (keeps_ack cpu phase s t (low_event cpu _ t e).1)
stop_told opens holds cpu (stops.Raise phase) s t h e = told_kept opens holds s t h (keeps_raise cpu phase s t (low_event cpu _ t e).1)
stop_told opens holds cpu stops.Off s t h e =
    told_kept opens holds s t h (keeps_end s (with_irq cpu false s) t (off_is cpu s t (low_event cpu _ t e).1) (keeps_same s (with_irq cpu false s) refl refl))
stop_told opens holds cpu stops.On s t h e =
    told_kept opens holds s t h (keeps_end s (with_irq cpu true s) t (on_is cpu s t (low_event cpu _ t e).1) (keeps_same s (with_irq cpu true s) refl refl))
stop_told opens holds cpu (stops.Run func arg) s t h e = told_kept opens holds s t h (keeps_run cpu func arg s t (low_event cpu _ t e).1)
stop_told opens holds cpu (stops.Complete answer) s t h e = told_kept opens holds s t h (keeps_complete cpu answer s t (low_event cpu _ t e).1)
stop_told opens holds cpu (stops.Collect number answer) s t h e =
    let c = collect_is s t number answer e in
    let to = record (stop_at s number) { is_open = false } in
    told_end (opens_all opens (cpu, event.Stop (stops.Collect number answer))) holds (with_stop number s to) t c.made
    (told_put opens holds number s to false refl c.low h)

-- each event does what it tells
told_goes : (opens : ℕ → Bool) (holds : Option ℕ) (cpu : ℕ) (e : Event) (s t : StateValue) → IsTold opens holds s → goes cpu e s ≡ Ok t
    → IsTold (opens_all opens (cpu, e)) (holder_next holds (cpu, e)) t
told_goes opens holds cpu (event.Call e) s t h g =
    let k = call_keeps_rounds cpu e s t g in told_kept opens holds s t h (keeps_same s t k.stops_are k.gate_is)
told_goes opens holds cpu (event.Stop e) s t h g = stop_told opens holds cpu e s t h g
told_goes opens holds cpu (event.Label e) s t h g = told_kept opens holds s t h (keeps_label cpu e s t (low_event cpu _ t g).1)

told_runs : (opens : ℕ → Bool) (holds : Option ℕ) (es : List (ℕ × Event)) (s t : StateValue) → IsTold opens holds s → Runs s es t
    → IsTold (λ number. is_open_from number (opens number) es) (holder_from holds es) t
unfolding is_open_from holder_from
told_runs opens holds [] s t h run = told_end opens holds s t (sym run) h
told_runs opens holds (e ∷ es) s t h (m, (g, run)) =
    told_runs (opens_all opens e) (holder_next holds e) es m t (told_goes opens holds e.0 e.1 s m h g) run

told_at_first : (u : Setting) (words : LabelWords) → IsTold (λ number. false) None (at_first u words)
unfolding at_first
told_at_first u words = record {
  stops_are = length-replicate 64 (closed u.online);
  open_is = λ number low. ap (λ (x : Stop). x.is_open) (stop_at_first u words number low);
  gate_is = refl;
}

-- an event of stops that ends a trace, at the state before it
told_before : (u : Setting) (words : LabelWords) (es : List (ℕ × Event)) (t : StateValue) (cpu : ℕ) (e : StopEvent)
    → IsTrace u words (es ++ (cpu, event.Stop e) ∷ []) t
    → (s : StateValue) × (IsTold (λ number. is_open number es) (holder es) s × ((stop_goes cpu e s ≡ Ok t) × (s.setting ≡ u)))
told_before u words es t cpu e run =
    let m = runs_last es (cpu, event.Stop e) (at_first u words) t run in (
      m.0,
      (
        told_runs (λ number. false) None es (at_first u words) m.0 (told_at_first u words) m.1.0,
        (m.1.1, setting_runs es (at_first u words) m.0 m.1.0 ∙ setting_at_first u words),
      ),
    )

finds_stop : (cpu : ℕ) (e : StopEvent) (es : List (ℕ × Event)) (s t : StateValue) → IsTold (λ number. is_open number es) (holder es) s
    → stop_goes cpu e s ≡ Ok t → FindsStop e es
unfolding stop_goes inside_goes
finds_stop cpu (stops.Open number task) es s t h e = let o = open_is s t cpu number task e in sym (h.open_is number o.low) ∙ o.shut
finds_stop cpu (stops.Enter number) es s t h e = let k = keeps_enter cpu number s t (low_event cpu _ t e).1 in sym (h.open_is number k.1.0) ∙ k.1.1
finds_stop cpu (stops.Collect number answer) es s t h e = let c = collect_is s t number answer e in sym (h.open_is number c.low) ∙ c.is
finds_stop cpu _ es s t h e = tt

pub stops_open_once : StopsOpenOnce
stops_open_once u words es t cpu e run = let b = told_before u words es t cpu e run in finds_stop cpu e es b.0 t b.1.0 b.1.1.0

finds_gate : (cpu : ℕ) (e : StopEvent) (es : List (ℕ × Event)) (s t : StateValue) → IsTold (λ number. is_open number es) (holder es) s
    → stop_goes cpu e s ≡ Ok t → FindsGate s.setting cpu e es
unfolding stop_goes gate_by
finds_gate cpu stops.Gate es s t h e = sym h.gate_is ∙ (gate_is s.gate cpu s t e).0
finds_gate cpu stops.Ungate es s t h e = sym h.gate_is ∙ (ungate_is cpu s t e).0
finds_gate cpu (stops.Open number task) es s t h e = λ told. sym h.gate_is ∙ (open_is s t cpu number task e).held told
finds_gate cpu _ es s t h e = tt

pub gate_is_of_one : GateIsOfOne
gate_is_of_one u words es t cpu e run =
    let b = told_before u words es t cpu e run in subst (λ (x : Setting). FindsGate x cpu e es) b.1.1.1 (finds_gate cpu e es b.0 t b.1.0 b.1.1.0)
