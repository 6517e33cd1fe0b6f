-- The events tell which phase each CPU acknowledged last in each stop, and which was raised last.
use Rattle.trace_laws.proofs.Names.{APatch, Bool, Err, Event, IsTrace, Key, Kind, LabelEvent, LabelWords, List, Multi, None, Ok, One, Option, Patch, Place}
use Rattle.trace_laws.proofs.Names.{Reason, Result, Runs, Seen, Setting, Site, Some, StateValue, Stop, StopEvent, Task, [], ack_by, acked, acked_by}
use Rattle.trace_laws.proofs.Names.{acknowledged, acks_as, acks_at_run, acks_disabled, ap, arith, at_last, at_phase, cases_eq, cases_lt, closed, collect_by}
use Rattle.trace_laws.proofs.Names.{collected, collected_with, complete_by, cpu_at, enter_by, eq-eqb, eqb-true, false, gate_by, gate_with, get_or-replicate}
use Rattle.trace_laws.proofs.Names.{get_or-set_same, goes, has, has_run, if◌then◌else◌, in_patch, in_round, inl, inr, inside_goes, is_some, is_store, key_by}
use Rattle.trace_laws.proofs.Names.{label_goes, late, length, length-set, made_store, may_ack, nat_lt, ne_eqb, next_store, not, on_stop, open_by, patch_by}
use Rattle.trace_laws.proofs.Names.{patch_left, popped, raise_by, raised, raised_by, refl, run_by, seen, set_past, site_by, site_word, slice_index_or}
use Rattle.trace_laws.proofs.Names.{slice_set, stop_at, stop_goes, subst, switched, switched_on, sym, to_be, true, unfinished, ungate_by, unseen, with_acked}
use Rattle.trace_laws.proofs.Names.{with_inside, with_irq, with_patch, with_stop, with_word, work, ℕ, ℤ, ◌&&◌, ◌++◌, ◌-◌, ◌<◌, ◌==◌, ◌>>=◌, ◌∙◌, ◌∷◌, ◌≡◌, ◌≢◌}
use Rattle.trace_laws.proofs.Names.{◌≤◌, ◌⊎◌}
use Rattle.std.proofs.lemmas.Bool.{and_from}
use Rattle.trace_model.specs.declared.event.Event.TheVariants as event
use Rattle.trace_model.specs.declared.event.LabelEvent.TheVariants as labels
use Rattle.trace_model.specs.declared.event.StopEvent.TheVariants as stops
use Rattle.trace_model.specs.declared.reason.Reason.TheVariants as reason
use Rattle.trace_model.specs.{Opened.opening as at_first, Stop.first_phase, Stop.opening as first_stop}
use Rattle.trace_laws.proofs.Calls.MadeSteps.{both_made, low_event, passed}
use Rattle.trace_laws.proofs.Labels.LawfulLabels.{off_is, on_is}
use Rattle.trace_laws.proofs.Labels.PatchPhases.{may_is}
use Rattle.trace_laws.proofs.Stops.AtRun.{rounds_at_first, rounds_goes, rounds_of, runs_last, seen_all, setting_at_first, setting_runs, stop_at_first, work_all}
use Rattle.trace_laws.proofs.Stops.CpusInStops.{Rounds, is_round, stop_changed, stop_kept}
use Rattle.trace_laws.proofs.Stops.Ends.{collected_is, run_is}
use Rattle.trace_laws.proofs.Stops.OpenStops.{gate_is, open_is, ungate_is}
use Rattle.trace_laws.proofs.Stops.Phases.{AckFrom, from_tests, in_patch_is}
use Rattle.trace_laws.proofs.Stops.QuietCpus.{call_keeps_rounds}
use Rattle.trace_laws.proofs.Stops.StopEvents.{InRound, actor_below, acts_at, in_round_is}
use Rattle.trace_laws.proofs.Stops.StopResults.{complete_is, enter_is, here_told, other_told, set_told}
use Rattle.smp_words.specs.declared.phase.TheConstants.{DISABLE_IRQ, RUN, OVER}
use Rattle.trace_laws.specs.Phases.{Turn, acked_from, acked_in, acked_last, acked_next, turn, turn_from, turn_next, turned_to}
use Rattle.trace_laws.specs.StopResults.{is_in}

-- the patch of a stop, but of one that makes a patch
abbrev pub unless_patch : Kind → Option Patch → Option Patch
unless_patch APatch patch = None
unless_patch _ patch = patch

-- what of a stop few events change
abbrev told_of : Stop → List ℕ × (Option ℕ × (ℕ × (Kind × Option Patch)))
told_of stop = (stop.acked, (stop.raiser, (stop.phase, (stop.task.kind, unless_patch stop.task.kind stop.patch))))

-- Who is to raise the next phase of a stop was the last to acknowledge this one.
pub record IsRaiser (turn : Turn) (stop : Stop) (cpu : ℕ) : Type 0 where
  pub acked : acked_by stop cpu ≡ stop.phase
  pub some : 1 ≤ stop.phase
  pub last : turn.last ≡ Some cpu

-- The events tell of a stop which phase each CPU acknowledged last, and which was raised last. Only a stop that makes a patch has one.
pub record StopTold (left_out : Bool) (acks : ℕ → ℕ) (turn : Turn) (stop : Stop) : Type 0 where
  pub acks_are : (cpu : ℕ) → cpu < 32 → acked_by stop cpu ≡ acks cpu
  pub phase_is : left_out ≡ false → is_round stop.task.kind ≡ true → turn.phase ≡ stop.phase
  pub raiser_is : (cpu : ℕ) → stop.raiser ≡ Some cpu → IsRaiser turn stop cpu
  pub unpatched : unless_patch stop.task.kind stop.patch ≡ None

-- They tell it of each stop.
pub record Told (acks : ℕ → ℕ → ℕ) (turns : ℕ → Turn) (s : StateValue) : Type 0 where
  pub each : (number : ℕ) → number < 64 → StopTold s.setting.without.raises (acks number) (turns number) (stop_at s number)

stop_told : (left_out : Bool) (acks : ℕ → ℕ) (turn : Turn) (a b : Stop) → told_of b ≡ told_of a → StopTold left_out acks turn a
    → StopTold left_out acks turn b
stop_told left_out acks turn a b same h =
    let acked_same : b.acked ≡ a.acked = ap (λ x. x.0) same in
    let raiser_same : b.raiser ≡ a.raiser = ap (λ x. x.1.0) same in
    let phase_same : b.phase ≡ a.phase = ap (λ x. x.1.1.0) same in
    let kind_same : b.task.kind ≡ a.task.kind = ap (λ x. x.1.1.1.0) same in
    let patch_same : unless_patch b.task.kind b.patch ≡ unless_patch a.task.kind a.patch = ap (λ x. x.1.1.1.1) same in
    record {
      acks_are = λ cpu low. ap (λ xs. slice_index_or xs cpu 0) acked_same ∙ h.acks_are cpu low;
      phase_is = λ told round. h.phase_is told (ap (λ k. is_round k) (sym kind_same) ∙ round) ∙ sym phase_same;
      raiser_is = λ cpu is.
          let r = h.raiser_is cpu (sym raiser_same ∙ is) in
          record { acked = ap (λ xs. slice_index_or xs cpu 0) acked_same ∙ r.acked ∙ sym phase_same; some = rw phase_same r.some; last = r.last };
      unpatched = patch_same ∙ h.unpatched;
    }

-- That of each stop is as it was.
pub record Keeps (s t : StateValue) : Type 0 where
  pub setting_is : t.setting ≡ s.setting
  pub same : (number : ℕ) → told_of (stop_at t number) ≡ told_of (stop_at s number)

keeps_end : (s t u : StateValue) → t ≡ u → Keeps s t → Keeps s u
keeps_end s t u same k = subst (λ (x : StateValue). Keeps s x) same k

keeps_same : (s t : StateValue) → t.stops ≡ s.stops → t.setting ≡ s.setting → Keeps s t
keeps_same s t same set = record { setting_is = set; same = λ number. ap (λ stops. told_of (slice_index_or stops number (closed 0))) same }

keeps_then : (s m t : StateValue) → Keeps s m → Keeps m t → Keeps s t
keeps_then s m t h k = record { setting_is = k.setting_is ∙ h.setting_is; same = λ number. k.same number ∙ h.same number }

keeps_if : (s x y : StateValue) (test : Bool) → Keeps s x → Keeps s y → Keeps s (if test then x else y)
keeps_if s x y true h k = h
keeps_if s x y false h k = k

keeps_put : (number : ℕ) (s : StateValue) (stop : Stop) → told_of stop ≡ told_of (stop_at s number) → Keeps s (with_stop number s stop)
keeps_put number s stop same = search (length-set, cases_eq, cases_lt, stop_changed, stop_kept, set_past, arith)

keeps_after : {A : Type 0} (s t u : StateValue) (test : Result A Reason) → (test >>= λ u. Ok t) ≡ Ok u → Keeps s t → Keeps s u
keeps_after s t u test e k = let m = both_made test (λ u. Ok t) u e in keeps_end s t u (cc) k

gate_keeps : (holds : Option ℕ) (cpu : ℕ) (s t : StateValue) → gate_with holds cpu s ≡ Ok t → Keeps s t
gate_keeps holds cpu s t e = keeps_end s (record s { gate = Some cpu }) t (gate_is holds cpu s t e).1 (keeps_same s (record s { gate = Some cpu }) refl refl)

ungate_keeps : (cpu : ℕ) (s t : StateValue) → ungate_by cpu s ≡ Ok t → Keeps s t
ungate_keeps cpu s t e = keeps_end s (record s { gate = None }) t (ungate_is cpu s t e).1 (keeps_same s (record s { gate = None }) refl refl)

keeps_enter : (cpu number : ℕ) (s t : StateValue) → enter_by cpu number s ≡ Ok t → Keeps s t
keeps_enter cpu number s t e =
    let i = (enter_is cpu number s t e).1 in
    let to = record (stop_at s number) { entered = slice_set (stop_at s number).entered cpu true } in
    let m = with_stop number s to in
    keeps_end s (with_inside cpu (Some number) m) t i.made
    (keeps_then s m (with_inside cpu (Some number) m) (keeps_put number s to refl) (keeps_same m (with_inside cpu (Some number) m) refl refl))

keeps_run : (cpu func arg : ℕ) (s t : StateValue) → run_by cpu func arg s ≡ Ok t → Keeps s t
keeps_run cpu func arg s t e =
    let i = run_is s t cpu func arg e in
    let to = record (stop_at s i.0.number) { ran = slice_set (stop_at s i.0.number).ran cpu true } in
    keeps_end s (with_stop i.0.number s to) t i.1 (keeps_put i.0.number s to refl)

keeps_complete : (cpu : ℕ) (answer : ℤ) (s t : StateValue) → complete_by cpu answer s ≡ Ok t → Keeps s t
keeps_complete cpu answer s t e =
    let c = complete_is cpu answer s t e in
    let to = record (stop_at s c.number) { answers = slice_set (stop_at s c.number).answers cpu (Some answer) } in
    let m = with_stop c.number s to in
    keeps_end s (with_inside cpu None m) t c.made
    (keeps_then s m (with_inside cpu None m) (keeps_put c.number s to refl) (keeps_same m (with_inside cpu None m) refl refl))

keeps_collect : (number : ℕ) (answer : ℤ) (s t : StateValue) → collect_by number answer s ≡ Ok t → Keeps s t
unfolding collect_by collected
keeps_collect number answer s t e =
    let stop = stop_at s number in
    let made = collected_with (unfinished stop) answer stop in
    let p = passed (nat_lt number 64 && stop.is_open) (on_stop number s made) (reason.StopNotOpen number) t e in
    let m = both_made made (λ x. Ok (with_stop number s x)) t p.1 in
    let c = collected_is (unfinished stop) stop m.0 answer m.1.0 in
    let to = record stop { is_open = false } in
    keeps_end s (with_stop number s to) t (ap (λ x. with_stop number s x) c.1 ∙ cc) (keeps_put number s to refl)

-- the patch of a stop that makes one is of no matter
of_patch : (stop : Stop) (patch : Option Patch) → stop.task.kind ≡ APatch → told_of (record stop { patch = patch }) ≡ told_of stop
of_patch stop patch is = rw is refl

keeps_made_store : (next : Option (Place × ℕ)) (number : ℕ) (patch : Patch) (place : Place) (word : ℕ) (s t : StateValue)
    → (stop_at s number).task.kind ≡ APatch → made_store next number patch place word s ≡ Ok t → Keeps s t
keeps_made_store None number patch place word s t is e = absurd cc
keeps_made_store (Some next) number patch place word s t is e =
    let m = with_word place word s in
    let u = with_patch number (popped patch place) m in
    let p = passed (is_store next place word) (Ok u) (to_be next) t e in
    let to = record (stop_at m number) { patch = Some (popped patch place) } in
    keeps_end s u t (cc) (keeps_then s m u (keeps_same s m refl refl) (keeps_put number m to (of_patch (stop_at s number) (Some (popped patch place)) is)))

keeps_patch : (cpu : ℕ) (place : Place) (word : ℕ) (s t : StateValue) → patch_by cpu place word s ≡ Ok t → Keeps s t
unfolding patch_by
keeps_patch cpu place word s t e =
    let m = both_made (in_patch cpu s) (λ number. made_store (next_store number s) number (patch_left number s) place word s) t e in
    let i = in_patch_is s cpu m.0 m.1.0 in
    keeps_made_store (next_store m.0 s) m.0 (patch_left m.0 s) place word s t (ap (λ n. (stop_at s n).task.kind) (sym i.1) ∙ i.0.kind_is) m.1.1

keeps_label : (cpu : ℕ) (e : LabelEvent) (s t : StateValue) → label_goes cpu e s ≡ Ok t → Keeps s t
unfolding label_goes
keeps_label cpu (labels.Set key count) s t e = keeps_patch cpu (Key key) count s t e
keeps_label cpu (labels.Turn site jumps) s t e = keeps_patch cpu (Site site) (site_word jumps) s t e
keeps_label cpu (labels.Key key on) s t e = keeps_after s s t (key_by cpu key on s) e (keeps_same s s refl refl)
keeps_label cpu (labels.Site site jumps) s t e = keeps_after s s t (site_by cpu site jumps s) e (keeps_same s s refl refl)
keeps_label cpu (labels.Nudge key up) s t e = search (both_made, keeps_end, keeps_same, arith)

told_kept : (acks : ℕ → ℕ → ℕ) (turns : ℕ → Turn) (s t : StateValue) → Told acks turns s → Keeps s t → Told acks turns t
told_kept acks turns s t h k = record {
  each = λ number low.
      stop_told t.setting.without.raises (acks number) (turns number) (stop_at s number) (stop_at t number) (k.same number)
      (rw k.setting_is (h.each number low));
}

told_end : (acks : ℕ → ℕ → ℕ) (turns : ℕ → Turn) (s t : StateValue) → s ≡ t → Told acks turns s → Told acks turns t
told_end acks turns s t same told = subst (λ (x : StateValue). Told acks turns x) same told

-- one stop is changed, and what the events tell of it
told_at : (acks acks' : ℕ → ℕ → ℕ) (turns turns' : ℕ → Turn) (number : ℕ) (s : StateValue) (stop : Stop) → number < length s.stops
    → StopTold s.setting.without.raises (acks' number) (turns' number) stop
    → ((other : ℕ) → other ≢ number → StopTold s.setting.without.raises (acks other) (turns other) (stop_at s other)
    → StopTold s.setting.without.raises (acks' other) (turns' other) (stop_at s other))
    → Told acks turns s → (other : ℕ) → other < 64 → other ≡ number ⊎ other ≢ number
    → StopTold s.setting.without.raises (acks' other) (turns' other) (stop_at (with_stop number s stop) other)
told_at acks acks' turns turns' number s stop low here elsewhere h other below (inl same) = rw (same, stop_changed number s stop low) here
told_at acks acks' turns turns' number s stop low here elsewhere h other below (inr ne) =
    rw (stop_kept other number s stop ne) (elsewhere other ne (h.each other below))

told_put : (acks acks' : ℕ → ℕ → ℕ) (turns turns' : ℕ → Turn) (number : ℕ) (s : StateValue) (stop : Stop) → number < length s.stops
    → StopTold s.setting.without.raises (acks' number) (turns' number) stop
    → ((other : ℕ) → other ≢ number → StopTold s.setting.without.raises (acks other) (turns other) (stop_at s other)
    → StopTold s.setting.without.raises (acks' other) (turns' other) (stop_at s other))
    → Told acks turns s → Told acks' turns' (with_stop number s stop)
told_put acks acks' turns turns' number s stop low here elsewhere h = record {
  each = λ other below. told_at acks acks' turns turns' number s stop low here elsewhere h other below (cases_eq other number);
}

-- what all the events tell, after one more
abbrev acks_all : (ℕ → Seen) → (ℕ → ℕ → ℕ) → ℕ × Event → ℕ → ℕ → ℕ
acks_all views acks e number cpu = acked_next number cpu (views cpu) (acks number cpu) e

abbrev turns_all : (ℕ → Seen) → (ℕ → Turn) → ℕ × Event → ℕ → Turn
turns_all views turns e number = turn_next number views (turns number) e

-- a stop is opened: no phase of it is acknowledged
no_patch : (kind : Kind) → unless_patch kind None ≡ None
no_patch kind = search arith

at_prepare : (kind : Kind) → is_round kind ≡ true → 1 ≡ first_phase kind
at_prepare kind round = search arith

opened_told : (left_out : Bool) (acks : ℕ → ℕ) (turn : Turn) (number : ℕ) (task : Task)
    → StopTold left_out (λ cpu. if number == number then 0 else acks cpu) (if number == number then turned_to 1 else turn) (first_stop task)
opened_told left_out acks turn number task =
    let t : (number == number) ≡ true = eq-eqb number number refl in
    rw t (record {
      acks_are = λ cpu low. get_or-replicate 32 cpu 0 0 low;
      phase_is = λ told round. at_prepare task.kind round;
      raiser_is = λ cpu is. absurd cc;
      unpatched = no_patch task.kind;
    })

-- another one is as it was
other_opened : (left_out : Bool) (acks : ℕ → ℕ) (turn : Turn) (number other : ℕ) (stop : Stop) → other ≢ number → StopTold left_out acks turn stop
    → StopTold left_out (λ cpu. if number == other then 0 else acks cpu) (if number == other then turned_to 1 else turn) stop
other_opened left_out acks turn number other stop ne h =
    let t : (number == other) ≡ false = ne_eqb number other (λ e. ne (sym e)) in rw t h

open_told : (views : ℕ → Seen) (acks : ℕ → ℕ → ℕ) (turns : ℕ → Turn) (cpu number : ℕ) (task : Task) (s t : StateValue) → length s.stops ≡ 64
    → Told acks turns s → open_by cpu number task s ≡ Ok t
    → Told (acks_all views acks (cpu, event.Stop (stops.Open number task))) (turns_all views turns (cpu, event.Stop (stops.Open number task))) t
open_told views acks turns cpu number task s t long h e =
    let o = open_is s t cpu number task e in
    let ev : ℕ × Event = (cpu, event.Stop (stops.Open number task)) in
    let left_out = s.setting.without.raises in
    told_end (acks_all views acks ev) (turns_all views turns ev) (with_stop number s (first_stop task)) t o.made
    (told_put acks (acks_all views acks ev) turns (turns_all views turns ev) number s (first_stop task) (rw long o.low)
    (opened_told left_out (acks number) (turns number) number task)
    (λ other ne old. other_opened left_out (acks other) (turns other) number other (stop_at s other) ne old) h)

-- nobody is to raise a phase
one_raises : (raiser : Option ℕ) (cpu : ℕ) → raiser ≡ None → raiser ≡ Some cpu → ⊥
one_raises raiser cpu none is = cc

-- the last to acknowledge a phase is to raise the next one, or has
last_told : (left_out : Bool) (acks : ℕ → ℕ) (turn : Turn) (who : Option ℕ) (actor : ℕ) (stop : Stop) → acked_by stop actor ≡ stop.phase → 1 ≤ stop.phase
    → stop.raiser ≡ None → StopTold left_out acks (acked_last actor turn) stop
    → StopTold left_out acks (acked_last actor turn) (at_last who actor (not left_out) stop)
last_told left_out acks turn (Some other) actor stop at one none h = h
last_told false acks turn None actor stop at one none h = record {
  acks_are = h.acks_are;
  phase_is = h.phase_is;
  raiser_is = λ cpu is. let same : actor ≡ cpu = cc in record { acked = rw (← same) at; some = one; last = is };
  unpatched = h.unpatched;
}
last_told true acks turn None actor stop at one none h = record {
  acks_are = h.acks_are;
  phase_is = λ told. absurd cc;
  raiser_is = λ cpu is. absurd (one_raises stop.raiser cpu none is);
  unpatched = h.unpatched;
}

-- a CPU has acknowledged the phase, while nobody is to raise the next one
acked_told : (left_out : Bool) (views : ℕ → Seen) (acks : ℕ → ℕ) (turn : Turn) (number actor phase : ℕ) (stop : Stop) → actor < length stop.acked
    → (views actor).inside ≡ Some number → acked_by stop actor < phase → stop.phase ≡ phase → stop.raiser ≡ None → StopTold left_out acks turn stop
    → StopTold left_out (λ cpu. if (actor == cpu) && is_in (views cpu).inside number then phase else acks cpu)
    (if is_in (views actor).inside number then acked_last actor turn else turn) (acknowledged actor phase (not left_out) stop)
unfolding acknowledged
acked_told left_out views acks turn number actor phase stop low inside more at none h =
    let now = λ (cpu : ℕ). if (actor == cpu) && is_in (views cpu).inside number then phase else acks cpu in
    let mid = with_acked actor phase stop in
    let set : acked_by mid actor ≡ phase = get_or-set_same stop.acked actor phase 0 low in
    subst (λ (x : Turn). StopTold left_out now x (at_last (late mid phase) actor (not left_out) mid))
    (here_told number (views actor).inside true (acked_last actor turn) turn (λ mine. inside))
    (last_told left_out now turn (late mid phase) actor mid (set ∙ sym at) (omega arith) none
    (record {
      acks_are = λ cpu below. set_told stop.acked actor cpu phase 0 low (cases_eq cpu actor)
          ∙ ap (λ x. if actor == cpu then phase else x) (h.acks_are cpu below)
          ∙ here_told number (views cpu).inside (actor == cpu) phase (acks cpu)
          (λ mine. ap (λ n. (views n).inside) (sym (eqb-true actor cpu mine)) ∙ inside);
      phase_is = h.phase_is;
      raiser_is = λ cpu is. absurd (one_raises stop.raiser cpu none is);
      unpatched = h.unpatched;
    }))

other_acked : (left_out : Bool) (views : ℕ → Seen) (acks : ℕ → ℕ) (turn : Turn) (number other actor phase : ℕ) (stop : Stop) → other ≢ number
    → (views actor).inside ≡ Some number → StopTold left_out acks turn stop
    → StopTold left_out (λ cpu. if (actor == cpu) && is_in (views cpu).inside other then phase else acks cpu)
    (if is_in (views actor).inside other then acked_last actor turn else turn) stop
other_acked left_out views acks turn number other actor phase stop ne inside h =
    let now = λ (cpu : ℕ). if (actor == cpu) && is_in (views cpu).inside other then phase else acks cpu in
    subst (λ (x : Turn). StopTold left_out now x stop)
    (other_told number other (views actor).inside true (acked_last actor turn) turn ne (λ mine. inside))
    (record {
      acks_are = λ cpu below. h.acks_are cpu below
          ∙ other_told number other (views cpu).inside (actor == cpu) phase (acks cpu) ne
          (λ mine. ap (λ n. (views n).inside) (sym (eqb-true actor cpu mine)) ∙ inside);
      phase_is = h.phase_is;
      raiser_is = h.raiser_is;
      unpatched = h.unpatched;
    })

-- what a CPU that may acknowledge RUN has shown, where it makes no patch
ran_as : (kind : Kind) (cpu number : ℕ) (s t : StateValue) → acks_as kind cpu number s ≡ Ok t → kind ≡ Multi → has_run (stop_at s number) cpu ≡ true
ran_as Multi cpu number s t e is = (passed (has_run (stop_at s number) cpu) (Ok s) reason.FunctionHasNotRun t e).0
ran_as One cpu number s t e is = absurd cc
ran_as APatch cpu number s t e is = absurd cc

ran_tests : (two runs : Bool) (cpu number : ℕ) (s t : StateValue) (test : Result (Unit {0}) Reason)
    → (if two then (test >>= λ v. Ok s) else (if runs then acks_at_run cpu number s else Ok s)) ≡ Ok t → two ≡ false → runs ≡ true
    → (stop_at s number).task.kind ≡ Multi → has_run (stop_at s number) cpu ≡ true
ran_tests true runs cpu number s t test e other is kind = absurd cc
ran_tests false false cpu number s t test e other is kind = absurd cc
ran_tests false true cpu number s t test e other is kind = ran_as (stop_at s number).task.kind cpu number s t e kind

keeps_may_ack : (cpu number phase : ℕ) (s t : StateValue) → may_ack cpu number phase s ≡ Ok t → Keeps s t
keeps_may_ack cpu number phase s t e =
    let k = (may_is s t number cpu phase e).0 in
    let stop = stop_at s number in
    let to = record stop { patch = k.patch } in
    let same : told_of to ≡ told_of stop = elim k.how [
      | inl h ↦ ap (λ p. told_of (record stop { patch = p })) h.0
      | inr h ↦ of_patch stop k.patch h.1.kind_is
    ] in
    keeps_end s (with_stop number s to) t (sym k.is) (keeps_put number s to same)

-- What an event that acknowledges a phase finds, and what it makes.
pub record Acks (views : ℕ → Seen) (works : ℕ → Option Task) (s t : StateValue) (cpu phase : ℕ) : Type 0 where
  pub number : ℕ
  pub here : InRound s cpu number
  pub more : acked_by (stop_at s number) cpu < phase
  pub at : (stop_at s number).phase ≡ phase
  pub disabled : phase ≡ DISABLE_IRQ → acks_disabled s.setting.without.switches cpu s ≡ Ok tt
  pub ran : phase ≡ RUN → (stop_at s number).task.kind ≡ Multi → has (stop_at s number).task.active cpu ≡ true → has_run (stop_at s number) cpu ≡ true
  pub mid : StateValue
  pub from : AckFrom views works s mid number
  pub keeps : Keeps s mid
  pub made : acked cpu number phase mid ≡ t

pub ack_is : (views : ℕ → Seen) (works : ℕ → Option Task) (s t : StateValue) (cpu phase : ℕ) → Rounds views works s → ack_by cpu phase s ≡ Ok t
    → Acks views works s t cpu phase
unfolding ack_by
ack_is views works s t cpu phase r e =
    let m = both_made (in_round cpu s) (λ number. may_ack cpu number phase s >>= λ x. Ok (acked cpu number phase x)) t e in
    let number = m.0 in
    let stop = stop_at s number in
    let i = in_round_is s cpu number m.1.0 in
    let n = both_made (may_ack cpu number phase s) (λ x. Ok (acked cpu number phase x)) t m.1.1 in
    let runs = (phase == RUN) && has stop.task.active cpu in
    let test = acks_disabled s.setting.without.switches cpu s in
    let tests : Result StateValue Reason =
    if phase == DISABLE_IRQ then (test >>= λ v. Ok s) else (if runs then acks_at_run cpu number s else Ok s) in
    let k = both_made (at_phase stop cpu phase) (λ u. tests) n.0 n.1.0 in
    let a = acts_at stop cpu phase k.0 k.1.0 in
    let f = from_tests views works (phase == DISABLE_IRQ) runs cpu number s n.0 r i.low k.1.1 in
    record {
      number = number;
      here = i;
      more = a.0;
      at = a.1;
      disabled = λ two. f.1 (eq-eqb phase DISABLE_IRQ two);
      ran = λ three kind active.
          let other : (phase == DISABLE_IRQ) ≡ false = ne_eqb phase DISABLE_IRQ (λ two. omega arith) in
          let yes : (phase == RUN) ≡ true = eq-eqb phase RUN three in
          ran_tests (phase == DISABLE_IRQ) runs cpu number s n.0 test k.1.1 other (and_from (phase == RUN) (has stop.task.active cpu) yes active) kind;
      mid = n.0;
      from = f.0;
      keeps = keeps_may_ack cpu number phase s n.0 n.1.0;
      made = cc;
    }

keeps_switched : (s : StateValue) (cpu number phase : ℕ) → Keeps s (switched cpu number phase s)
keeps_switched s cpu number phase = search (keeps_if, keeps_same, arith)

-- while a CPU of the mask has not acknowledged the phase, nobody is to raise the next one
none_raises : (raiser : Option ℕ) → (is_some raiser ≡ true → ⊥) → raiser ≡ None
none_raises None h = refl
none_raises (Some cpu) h = absurd (h refl)

ack_told : (views : ℕ → Seen) (works : ℕ → Option Task) (acks : ℕ → ℕ → ℕ) (turns : ℕ → Turn) (cpu phase : ℕ) (s t : StateValue) → Rounds views works s
    → Told acks turns s → ack_by cpu phase s ≡ Ok t
    → Told (acks_all views acks (cpu, event.Stop (stops.Ack phase))) (turns_all views turns (cpu, event.Stop (stops.Ack phase))) t
ack_told views works acks turns cpu phase s t r h e =
    let a = ack_is views works s t cpu phase r e in
    let number = a.number in
    let mid = a.mid in
    let ev : ℕ × Event = (cpu, event.Stop (stops.Ack phase)) in
    let left_out = mid.setting.without.raises in
    let below = actor_below s cpu number r.cpus_are r.away a.here.inside in
    let inside : (views cpu).inside ≡ Some number = sym (r.cpu cpu below).inside_is ∙ a.here.inside in
    let stop = stop_at mid number in
    let same = a.keeps.same number in
    let acked_same : stop.acked ≡ (stop_at s number).acked = ap (λ x. x.0) same in
    let raiser_same : stop.raiser ≡ (stop_at s number).raiser = ap (λ x. x.1.0) same in
    let at : stop.phase ≡ phase = ap (λ x. x.1.1.0) same ∙ a.at in
    let early : acked_by stop cpu ≡ acked_by (stop_at s number) cpu = ap (λ xs. slice_index_or xs cpu 0) acked_same in
    let w = r.at number a.here.low cpu below in
    let none = none_raises (stop_at s number).raiser
    (λ some. let x = w.last some (w.in_stop a.here.inside).member in let y = a.more in let z = a.at in absurd (omega arith)) in
    let kept = told_kept acks turns s mid h a.keeps in
    let u = with_stop number mid (acknowledged cpu phase (not left_out) stop) in
    told_end (acks_all views acks ev) (turns_all views turns ev) (acked cpu number phase mid) t a.made
    (told_kept (acks_all views acks ev) (turns_all views turns ev) u (acked cpu number phase mid)
    (told_put acks (acks_all views acks ev) turns (turns_all views turns ev) number mid (acknowledged cpu phase (not left_out) stop)
    (rw a.from.rounds.stops_are a.here.low)
    (acked_told left_out views (acks number) (turns number) number cpu phase stop (rw (a.from.rounds.stop number a.here.low).acked_are below) inside
    (rw early a.more) at (raiser_same ∙ none) (kept.each number a.here.low))
    (λ other ne old. other_acked left_out views (acks other) (turns other) number other cpu phase (stop_at mid other) ne inside old) kept)
    (keeps_switched u cpu number phase))

-- who is to raise a phase does so
raised_so : (raiser : Option ℕ) (cpu phase : ℕ) (stop to : Stop) → raised_by raiser cpu phase stop ≡ Ok to
    → (raiser ≡ Some cpu) × (record stop { phase = phase; raiser = None } ≡ to)
raised_so None cpu phase stop to e = absurd cc
raised_so (Some last) cpu phase stop to e =
    let p = passed (last == cpu) (Ok (record stop { phase = phase; raiser = None })) (reason.AcknowledgedLast last) to e in
    (ap (λ n. Some n) (eqb-true last cpu p.0), cc)

-- What an event that raises a phase finds, and what it makes.
pub record Raises (s t : StateValue) (cpu phase : ℕ) : Type 0 where
  pub number : ℕ
  pub here : InRound s cpu number
  pub raiser : (stop_at s number).raiser ≡ Some cpu
  pub at : (stop_at s number).phase ≡ phase - 1
  pub made : switched_on cpu phase (with_stop number s (record (stop_at s number) { phase = phase; raiser = None })) ≡ t

pub raise_is : (s t : StateValue) (cpu phase : ℕ) → raise_by cpu phase s ≡ Ok t → Raises s t cpu phase
unfolding raise_by raised
raise_is s t cpu phase e =
    let made = λ (number : ℕ). let stop = stop_at s number in
    let x : Result Stop Reason = if stop.phase == phase - 1 then raised_by stop.raiser cpu phase stop else Err (reason.PhaseIs stop.phase) in x in
    let m = both_made (in_round cpu s) (λ number. on_stop number s (made number) >>= λ x. Ok (switched_on cpu phase x)) t e in
    let stop = stop_at s m.0 in
    let n = both_made (on_stop m.0 s (made m.0)) (λ x. Ok (switched_on cpu phase x)) t m.1.1 in
    let k = both_made (made m.0) (λ x. Ok (with_stop m.0 s x)) n.0 n.1.0 in
    let p = passed (stop.phase == phase - 1) (raised_by stop.raiser cpu phase stop) (reason.PhaseIs stop.phase) k.0 k.1.0 in
    let o = raised_so stop.raiser cpu phase stop k.0 p.1 in
    let end : with_stop m.0 s (record stop { phase = phase; raiser = None }) ≡ n.0 = ap (λ x. with_stop m.0 s x) o.1 ∙ cc in
    record {
      number = m.0;
      here = in_round_is s cpu m.0 m.1.0;
      raiser = o.0;
      at = eqb-true stop.phase (phase - 1) p.0;
      made = ap (λ x. switched_on cpu phase x) end ∙ cc;
    }

raised_told : (left_out : Bool) (acks : ℕ → ℕ) (turn : Turn) (number phase : ℕ) (inside : Option ℕ) (stop : Stop) → inside ≡ Some number
    → StopTold left_out acks turn stop
    → StopTold left_out acks (if is_in inside number then turned_to phase else turn) (record stop { phase = phase; raiser = None })
raised_told left_out acks turn number phase inside stop is h =
    subst (λ (x : Turn). StopTold left_out acks x (record stop { phase = phase; raiser = None }))
    (here_told number inside true (turned_to phase) turn (λ mine. is))
    (record { acks_are = h.acks_are; phase_is = λ told round. refl; raiser_is = λ cpu e. absurd cc; unpatched = h.unpatched })

other_raised : (left_out : Bool) (acks : ℕ → ℕ) (turn : Turn) (number other phase : ℕ) (inside : Option ℕ) (stop : Stop) → other ≢ number
    → inside ≡ Some number → StopTold left_out acks turn stop → StopTold left_out acks (if is_in inside other then turned_to phase else turn) stop
other_raised left_out acks turn number other phase inside stop ne is h =
    subst (λ (x : Turn). StopTold left_out acks x stop) (other_told number other inside true (turned_to phase) turn ne (λ mine. is)) h

raise_told : (views : ℕ → Seen) (works : ℕ → Option Task) (acks : ℕ → ℕ → ℕ) (turns : ℕ → Turn) (cpu phase : ℕ) (s t : StateValue)
    → Rounds views works s → Told acks turns s → raise_by cpu phase s ≡ Ok t → Told acks (turns_all views turns (cpu, event.Stop (stops.Raise phase))) t
raise_told views works acks turns cpu phase s t r h e =
    let i = raise_is s t cpu phase e in
    let number = i.number in
    let now = turns_all views turns (cpu, event.Stop (stops.Raise phase)) in
    let left_out = s.setting.without.raises in
    let below = actor_below s cpu number r.cpus_are r.away i.here.inside in
    let inside : (views cpu).inside ≡ Some number = sym (r.cpu cpu below).inside_is ∙ i.here.inside in
    let to = record (stop_at s number) { phase = phase; raiser = None } in
    let u = with_stop number s to in
    told_end acks now (switched_on cpu phase u) t i.made
    (told_kept acks now u (switched_on cpu phase u)
    (told_put acks acks turns now number s to (rw r.stops_are i.here.low)
    (raised_told left_out (acks number) (turns number) number phase (views cpu).inside (stop_at s number) inside (h.each number i.here.low))
    (λ other ne old. other_raised left_out (acks other) (turns other) number other phase (views cpu).inside (stop_at s other) ne inside old) h)
    (keeps_if u (with_irq cpu true u) u (u.setting.without.switches && (phase == OVER)) (keeps_same u (with_irq cpu true u) refl refl)
    (keeps_same u u refl refl)))

stop_event_told : (views : ℕ → Seen) (works : ℕ → Option Task) (acks : ℕ → ℕ → ℕ) (turns : ℕ → Turn) (cpu : ℕ) (e : StopEvent) (s t : StateValue)
    → Rounds views works s → Told acks turns s → stop_goes cpu e s ≡ Ok t
    → Told (acks_all views acks (cpu, event.Stop e)) (turns_all views turns (cpu, event.Stop e)) t
unfolding stop_goes inside_goes gate_by
stop_event_told views works acks turns cpu stops.Gate s t r h e = told_kept acks turns s t h (gate_keeps s.gate cpu s t e)
stop_event_told views works acks turns cpu stops.Ungate s t r h e = told_kept acks turns s t h (ungate_keeps cpu s t e)
stop_event_told views works acks turns cpu (stops.Open number task) s t r h e = open_told views acks turns cpu number task s t r.stops_are h e
stop_event_told views works acks turns cpu (stops.Enter number) s t r h e =
    told_kept acks turns s t h (keeps_enter cpu number s t (low_event cpu _ t e).1)
stop_event_told views works acks turns cpu (stops.Ack phase) s t r h e = ack_told views works acks turns cpu phase s t r h (low_event cpu _ t e).1
stop_event_told views works acks turns cpu (stops.Raise phase) s t r h e = raise_told views works acks turns cpu phase s t r h (low_event cpu _ t e).1
stop_event_told views works acks turns cpu stops.Off s t r h e =
    let m = with_irq cpu false s in
    told_kept acks turns s t h (keeps_end s m t (off_is cpu s t (low_event cpu _ t e).1) (keeps_same s m refl refl))
stop_event_told views works acks turns cpu stops.On s t r h e =
    let m = with_irq cpu true s in
    told_kept acks turns s t h (keeps_end s m t (on_is cpu s t (low_event cpu _ t e).1) (keeps_same s m refl refl))
stop_event_told views works acks turns cpu (stops.Run func arg) s t r h e =
    told_kept acks turns s t h (keeps_run cpu func arg s t (low_event cpu _ t e).1)
stop_event_told views works acks turns cpu (stops.Complete answer) s t r h e =
    told_kept acks turns s t h (keeps_complete cpu answer s t (low_event cpu _ t e).1)
stop_event_told views works acks turns cpu (stops.Collect number answer) s t r h e = told_kept acks turns s t h (keeps_collect number answer s t e)

-- each event does what it tells
told_goes : (views : ℕ → Seen) (works : ℕ → Option Task) (acks : ℕ → ℕ → ℕ) (turns : ℕ → Turn) (cpu : ℕ) (e : Event) (s t : StateValue)
    → Rounds views works s → Told acks turns s → goes cpu e s ≡ Ok t → Told (acks_all views acks (cpu, e)) (turns_all views turns (cpu, e)) t
told_goes views works acks turns cpu (event.Call e) s t r h g =
    let k = call_keeps_rounds cpu e s t g in told_kept acks turns s t h (keeps_same s t k.stops_are k.setting_is)
told_goes views works acks turns cpu (event.Stop e) s t r h g = stop_event_told views works acks turns cpu e s t r h g
told_goes views works acks turns cpu (event.Label e) s t r h g = told_kept acks turns s t h (keeps_label cpu e s t (low_event cpu _ t g).1)

told_runs : (views : ℕ → Seen) (works : ℕ → Option Task) (acks : ℕ → ℕ → ℕ) (turns : ℕ → Turn) (es : List (ℕ × Event)) (s t : StateValue)
    → Rounds views works s → Told acks turns s → Runs s es t
    → Told (λ number cpu. acked_from number cpu (views cpu) (acks number cpu) es) (λ number. turn_from number views (turns number) es) t
unfolding acked_from turn_from
told_runs views works acks turns [] s t r h run = told_end acks turns s t (sym run) h
told_runs views works acks turns (e ∷ es) s t r h (m, (g, run)) =
    told_runs (seen_all views e) (work_all works e) (acks_all views acks e) (turns_all views turns e) es m t (rounds_goes views works e.0 e.1 s m r g)
    (told_goes views works acks turns e.0 e.1 s m r h g) run

closed_told : (left_out : Bool) (mask : ℕ) → StopTold left_out (λ cpu. 0) (turned_to 1) (closed mask)
closed_told left_out mask = record {
  acks_are = λ cpu low. get_or-replicate 32 cpu 0 0 low;
  phase_is = λ told round. absurd cc;
  raiser_is = λ cpu is. absurd cc;
  unpatched = refl;
}

told_at_first : (u : Setting) (words : LabelWords) → Told (λ number cpu. 0) (λ number. turned_to 1) (at_first u words)
told_at_first u words = record {
  each = λ number low. rw (stop_at_first u words number low) (closed_told (at_first u words).setting.without.raises u.online);
}

-- What a trace tells of the state that it leads to.
pub record TraceTold (u : Setting) (es : List (ℕ × Event)) (s : StateValue) : Type 0 where
  pub rounds : Rounds (λ cpu. seen cpu es) (λ number. work number es) s
  pub told : Told (λ number cpu. acked_in number cpu es) (λ number. turn number es) s
  pub setting_is : s.setting ≡ u

-- an event of stops that ends a trace, at the state before it
pub told_before : (u : Setting) (words : LabelWords) (es : List (ℕ × Event)) (t : StateValue) (cpu : ℕ) (e : StopEvent)
    → IsTrace u words (es ++ (cpu, event.Stop e) ∷ []) t → (s : StateValue) × (TraceTold u es s × (stop_goes cpu e s ≡ Ok t))
told_before u words es t cpu e run =
    let m = runs_last es (cpu, event.Stop e) (at_first u words) t run in
    let first = rounds_at_first u words in (
      m.0,
      (
        record {
          rounds = rounds_of u words es m.0 m.1.0;
          told = told_runs (λ cpu. unseen) (λ number. None) (λ number cpu. 0) (λ number. turned_to 1) es (at_first u words) m.0 first
              (told_at_first u words) m.1.0;
          setting_is = setting_runs es (at_first u words) m.0 m.1.0 ∙ setting_at_first u words;
        },
        m.1.1,
      ),
    )

-- What the events tell of a CPU in a stop.
pub record Here (u : Setting) (es : List (ℕ × Event)) (s : StateValue) (number cpu : ℕ) : Type 0 where
  pub inside : (seen cpu es).inside ≡ Some number
  pub opened : work number es ≡ Some (stop_at s number).task
  pub member : has (stop_at s number).task.mask cpu ≡ true
  pub acks : (member : ℕ) → member < 32 → acked_by (stop_at s number) member ≡ acked_in number member es
  pub ran : has_run (stop_at s number) cpu ≡ (seen cpu es).ran
  pub irq : u.without.switches ≡ false → (cpu_at s cpu).irq ≡ (seen cpu es).irq

pub here_is : (u : Setting) (es : List (ℕ × Event)) (s : StateValue) (number cpu : ℕ) → TraceTold u es s → number < 64 → cpu < 32
    → (cpu_at s cpu).inside ≡ Some number → Here u es s number cpu
here_is u es s number cpu h low below is =
    let q = h.rounds.cpu cpu below in
    let w = h.rounds.at number low cpu below in
    let i = w.in_stop is in
    record {
      inside = sym q.inside_is ∙ is;
      opened = (h.rounds.stop number low).work_is i.is_open;
      member = i.member;
      acks = (h.told.each number low).acks_are;
      ran = w.ran_is is;
      irq = λ told. q.irq_is (ap (λ x. x.without.switches) h.setting_is ∙ told);
    }
