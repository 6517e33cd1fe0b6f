-- The events tell who has entered a stop and its answers: those that it calls enter it, and its result is of the answers of all.
use Rattle.trace_laws.proofs.Names.{Bool, Err, Event, IsTrace, Key, LabelEvent, LabelWords, List, None, Ok, Option, Patch, Place, Reason, Result, Runs, Seen}
use Rattle.trace_laws.proofs.Names.{Setting, Site, Some, StateValue, Stop, StopEvent, Task, [], ack_by, acked, acknowledged, and_parts, answer_of, ap, arith}
use Rattle.trace_laws.proofs.Names.{cases_eq, cases_lt, closed, collect_by, collected, collected_with, complete_by, completed, cpu_at, enter_by, enter_from}
use Rattle.trace_laws.proofs.Names.{entered, entered_open, eq-eqb, eqb-true, false, gate_by, gate_with, get_or-replicate, get_or-set_other, get_or-set_same}
use Rattle.trace_laws.proofs.Names.{gives, goes, has, if◌then◌else◌, in_patch, in_round, inl, inr, inside_goes, int_eq, is_called, is_none, is_some, is_store}
use Rattle.trace_laws.proofs.Names.{key_by, label_goes, length, length-set, lt-ltb, ltb-true, made_store, may_ack, nat_lt, ne_eqb, next_store, not, on_stop}
use Rattle.trace_laws.proofs.Names.{open_by, patch_by, patch_left, popped, pos, raise_by, raised, refl, run_by, seen, set_past, site_by, site_word}
use Rattle.trace_laws.proofs.Names.{slice_index_or, slice_set, stop_at, stop_goes, stop_of, subst, switched, switched_on, sym, to_be, true, unfinished}
use Rattle.trace_laws.proofs.Names.{ungate_by, unseen, with_inside, with_irq, with_patch, with_stop, with_word, work, ℕ, ℤ, ◌&&◌, ◌<◌, ◌==◌, ◌>>=◌, ◌∙◌, ◌∷◌}
use Rattle.trace_laws.proofs.Names.{◌≡◌, ◌≢◌, ◌⊎◌}
use Rattle.std.proofs.lemmas.Bool.Decides.{Decides-int_eq}
use Rattle.trace_model.specs.declared.event.Event.TheVariants as event
use Rattle.trace_model.specs.declared.event.LabelEvent.TheVariants as labels
use Rattle.trace_model.specs.declared.event.StopEvent.TheVariants as stops
use Rattle.trace_model.specs.declared.reason.Reason.TheVariants as reason
use Rattle.trace_model.specs.{Opened.opening as at_first, Stop.giver, Stop.is_answer, Stop.is_same, Stop.opening, Stops.stop_in}
use Rattle.trace_laws.proofs.{Calls.MadeSteps.both_made, Calls.MadeSteps.low_event, Calls.MadeSteps.passed}
use Rattle.trace_laws.proofs.Labels.LawfulLabels.{off_is, on_is}
use Rattle.trace_laws.proofs.Labels.PatchPhases.{may_is}
use Rattle.trace_laws.proofs.Labels.StoredWords.{first_is}
use Rattle.trace_laws.proofs.Stops.AtRun.{rounds_at_first, rounds_goes, rounds_of, runs_last, seen_all, stop_at_first, work_all}
use Rattle.trace_laws.proofs.Stops.CpusInStops.{Rounds, stop_changed, stop_kept}
use Rattle.trace_laws.proofs.Stops.Ends.{collected_is, completed_is, first_none, run_is}
use Rattle.trace_laws.proofs.Stops.OpenStops.{gate_is, open_is, ungate_is}
use Rattle.trace_laws.proofs.Stops.Phases.{raised_is}
use Rattle.trace_laws.proofs.Stops.QuietCpus.{call_keeps_rounds}
use Rattle.trace_laws.proofs.Stops.StopEvents.{stop_of_is}
use Rattle.smp_words.specs.declared.phase.TheConstants.{OVER}
use Rattle.trace_laws.specs.StopResults.{EntersAreCalled, IsResult, MayEnter, ResultsAreOfAll, answer_next, answered, answered_from, entered_from, entered_next}
use Rattle.trace_laws.specs.StopResults.{has_entered, is_in}

-- each CPU of the mask has answered
given_is : (x : Option ℤ) (mask : Bool) → (mask && is_none x) ≡ false → mask ≡ true → (given : ℤ) × (x ≡ Some given)
given_is None mask e m = absurd cc
given_is (Some given) mask e m = (given, refl)

-- an answer is compared
same_answer : (x : Option ℤ) (answer : ℤ) → is_answer x answer ≡ true → x ≡ Some answer
same_answer None answer e = absurd cc
same_answer (Some given) answer e = ap (λ n. Some n) ((Decides-int_eq given answer).0 e)

-- none has answered anything but 0
all_same : (mask test : Bool) → (mask && is_same test false) ≡ false → mask ≡ true → test ≡ true
all_same mask true h m = refl
all_same mask false h m = absurd cc

zero_is : (x : Option ℤ) (mask : Bool) → (mask && is_same (is_answer x (pos 0)) false) ≡ false → mask ≡ true → x ≡ Some (pos 0)
zero_is x mask h m = same_answer x (pos 0) (all_same mask (is_answer x (pos 0)) h m)

-- one has answered this
some_same : (mask test : Bool) → (mask && is_same test true) ≡ true → (mask ≡ true) × (test ≡ true)
some_same true true h = (refl, refl)
some_same true false h = absurd cc
some_same false test h = absurd cc

one_is : (x : Option ℤ) (mask : Bool) (answer : ℤ) → (mask && is_same (is_answer x answer) true) ≡ true → (mask ≡ true) × (x ≡ Some answer)
one_is x mask answer h = let t = some_same mask (is_answer x answer) h in (t.0, same_answer x answer t.1)

-- the result is 0, or it is not
gives_none : (answer : ℤ) (none some : Bool) → (if int_eq answer (pos 0) then none else some) ≡ true → answer ≡ pos 0 → none ≡ true
gives_none answer none some h is = let t : int_eq answer (pos 0) ≡ true = (Decides-int_eq answer (pos 0)).1 is in rw t at h

else_is : (test none some : Bool) → (if test then none else some) ≡ true → (test ≡ true → ⊥) → some ≡ true
else_is true none some h ne = absurd (ne refl)
else_is false none some h ne = h

gives_one : (answer : ℤ) (none some : Bool) → (if int_eq answer (pos 0) then none else some) ≡ true → answer ≢ pos 0 → some ≡ true
gives_one answer none some h ne = else_is (int_eq answer (pos 0)) none some h (λ t. ne ((Decides-int_eq answer (pos 0)).0 t))

none_from : (who : Option ℕ) → is_none who ≡ true → who ≡ None
none_from who e = search arith

some_from : (who : Option ℕ) → is_some who ≡ true → (n : ℕ) × (who ≡ Some n)
some_from (Some n) e = (n, refl)
some_from None e = absurd cc

-- What an event that collects a result finds.
record Collects (s : StateValue) (number : ℕ) (answer : ℤ) : Type 0 where
  low : number < 64
  is : (stop_at s number).is_open ≡ true
  all : unfinished (stop_at s number) ≡ None
  gives_it : gives (stop_at s number) answer ≡ true

collected_so : (who : Option ℕ) (stop to : Stop) (answer : ℤ) → collected_with who answer stop ≡ Ok to → (who ≡ None) × (gives stop answer ≡ true)
collected_so who stop to answer e = search (passed, arith)

collect_is : (s t : StateValue) (number : ℕ) (answer : ℤ) → collect_by number answer s ≡ Ok t → Collects s number answer
unfolding collect_by collected
collect_is s t number answer e =
    let stop = stop_at s number in
    let made = collected_with (unfinished stop) answer stop in
    let p = passed (nat_lt number 64 && stop.is_open) (on_stop number s made) (reason.StopNotOpen number) t e in
    let b = and_parts (nat_lt number 64) stop.is_open p.0 in
    let m = both_made made (λ x. Ok (with_stop number s x)) t p.1 in
    let so = collected_so (unfinished stop) stop m.0 answer m.1.0 in
    record { low = ltb-true number 64 b.0; is = b.1; all = so.0; gives_it = so.1 }

-- The events tell who has entered a stop, and its answers.
record StopTold (enters : ℕ → Bool) (answers : ℕ → Option ℤ) (stop : Stop) : Type 0 where
  entered_is : (cpu : ℕ) → cpu < 32 → slice_index_or stop.entered cpu false ≡ enters cpu
  answers_are : (cpu : ℕ) → cpu < 32 → answer_of stop cpu ≡ answers cpu

-- They tell it of each stop.
record Told (enters : ℕ → ℕ → Bool) (answers : ℕ → ℕ → Option ℤ) (s : StateValue) : Type 0 where
  each : (number : ℕ) → number < 64 → StopTold (enters number) (answers number) (stop_at s number)

-- the result is of the answers that they tell
result_is : (number : ℕ) (es : List (ℕ × Event)) (s : StateValue) (answer : ℤ) → Collects s number answer → work number es ≡ Some (stop_at s number).task
    → StopTold (λ cpu. has_entered number cpu es) (λ cpu. answered number cpu es) (stop_at s number) → IsResult number es answer
result_is number es s answer c opened told =
    let stop = stop_at s number in
    let all = λ (cpu : ℕ) (low : cpu < 32) (m : has stop.task.mask cpu ≡ true).
    given_is (answer_of stop cpu) (has stop.task.mask cpu)
    (first_none (λ c. has stop.task.mask c && is_none (answer_of stop c)) 0 32 c.all cpu (omega arith) (omega arith)) m in
    record {
      task = stop.task;
      opened = opened;
      all = λ cpu low m. let g = all cpu low m in (g.0, sym (told.answers_are cpu low) ∙ g.1);
      all_zero = λ zero cpu low m.
          let n = none_from (giver stop (pos 0) false)
          (gives_none answer (is_none (giver stop (pos 0) false)) (is_some (giver stop answer true)) c.gives_it zero) in
          let f = first_none (λ c. has stop.task.mask c && is_same (is_answer (answer_of stop c) (pos 0)) false) 0 32 n cpu (omega arith) (omega arith) in
          sym (told.answers_are cpu low) ∙ zero_is (answer_of stop cpu) (has stop.task.mask cpu) f m;
      given = λ other.
          let n = some_from (giver stop answer true)
          (gives_one answer (is_none (giver stop (pos 0) false)) (is_some (giver stop answer true)) c.gives_it other) in
          let f = first_is (λ c. has stop.task.mask c && is_same (is_answer (answer_of stop c) answer) true) 0 32 n.0 n.1 in
          let o = one_is (answer_of stop n.0) (has stop.task.mask n.0) answer f.passing in
          let low : n.0 < 32 = omega (arith, f.within) in
          (n.0, (low, (o.0, sym (told.answers_are n.0 low) ∙ o.1)));
    }

-- the events tell of a stop who has entered it, and its answers
abbrev told_of : Stop → List Bool × List (Option ℤ)
told_of stop = (stop.entered, stop.answers)

stop_told : (enters : ℕ → Bool) (answers : ℕ → Option ℤ) (a b : Stop) → told_of b ≡ told_of a → StopTold enters answers a → StopTold enters answers b
stop_told enters answers a b same h =
    let entered_same : b.entered ≡ a.entered = ap (λ x. x.0) same in
    let answers_same : b.answers ≡ a.answers = ap (λ x. x.1) same in
    record {
      entered_is = λ cpu low. ap (λ xs. slice_index_or xs cpu false) entered_same ∙ h.entered_is cpu low;
      answers_are = λ cpu low. ap (λ xs. slice_index_or xs cpu None) answers_same ∙ h.answers_are cpu low;
    }

-- Nobody has entered a stop, and no CPU has answered.
record Keeps (s t : StateValue) : Type 0 where
  same : (number : ℕ) → told_of (stop_at t number) ≡ told_of (stop_at s number)

keeps_end : (s t u : StateValue) → t ≡ u → Keeps s t → Keeps s u
keeps_end s t u same k = subst (λ (x : StateValue). Keeps s x) same k

keeps_same : (s t : StateValue) → t.stops ≡ s.stops → Keeps s t
keeps_same s t same = record { same = λ number. ap (λ stops. told_of (slice_index_or stops number (closed 0))) same }

keeps_then : (s m t : StateValue) → Keeps s m → Keeps m t → Keeps s t
keeps_then s m t h k = record { same = λ number. k.same number ∙ h.same number }

keeps_if : (s x y : StateValue) (test : Bool) → Keeps s x → Keeps s y → Keeps s (if test then x else y)
keeps_if s x y true h k = h
keeps_if s x y false h k = k

keeps_put : (number : ℕ) (s : StateValue) (stop : Stop) → told_of stop ≡ told_of (stop_at s number) → Keeps s (with_stop number s stop)
keeps_put number s stop same = search (length-set, cases_eq, cases_lt, stop_changed, stop_kept, set_past, arith)

keeps_stop : (number : ℕ) (s t : StateValue) (made : Result Stop Reason) → ((to : Stop) → made ≡ Ok to → told_of to ≡ told_of (stop_at s number))
    → on_stop number s made ≡ Ok t → Keeps s t
keeps_stop number s t made kept e =
    let m = both_made made (λ x. Ok (with_stop number s x)) t e in keeps_end s (with_stop number s m.0) t (cc) (keeps_put number s m.0 (kept m.0 m.1.0))

keeps_after : {A : Type 0} (s t u : StateValue) (test : Result A Reason) → (test >>= λ u. Ok t) ≡ Ok u → Keeps s t → Keeps s u
keeps_after s t u test e k = let m = both_made test (λ u. Ok t) u e in keeps_end s t u (cc) k

gate_keeps : (holds : Option ℕ) (cpu : ℕ) (s t : StateValue) → gate_with holds cpu s ≡ Ok t → Keeps s t
gate_keeps holds cpu s t e = keeps_end s (record s { gate = Some cpu }) t (gate_is holds cpu s t e).1 (keeps_same s (record s { gate = Some cpu }) refl)

ungate_keeps : (cpu : ℕ) (s t : StateValue) → ungate_by cpu s ≡ Ok t → Keeps s t
ungate_keeps cpu s t e = keeps_end s (record s { gate = None }) t (ungate_is cpu s t e).1 (keeps_same s (record s { gate = None }) refl)

acknowledged_is : (cpu phase : ℕ) (raises : Bool) (stop : Stop) → told_of (acknowledged cpu phase raises stop) ≡ told_of stop
unfolding acknowledged
acknowledged_is cpu phase raises stop = search arith

keeps_switched : (s : StateValue) (cpu number phase : ℕ) → Keeps s (switched cpu number phase s)
keeps_switched s cpu number phase = search (keeps_if, keeps_same, arith)

-- a CPU may acknowledge: at most a patch is known
keeps_may_ack : (cpu number phase : ℕ) (s t : StateValue) → may_ack cpu number phase s ≡ Ok t → Keeps s t
keeps_may_ack cpu number phase s t e =
    let k = (may_is s t number cpu phase e).0 in
    let to = record (stop_at s number) { patch = k.patch } in
    keeps_end s (with_stop number s to) t (sym k.is) (keeps_put number s to refl)

keeps_ack : (cpu phase : ℕ) (s t : StateValue) → ack_by cpu phase s ≡ Ok t → Keeps s t
unfolding ack_by
keeps_ack cpu phase s t e =
    let m = both_made (in_round cpu s) (λ number. may_ack cpu number phase s >>= λ x. Ok (acked cpu number phase x)) t e in
    let n = both_made (may_ack cpu m.0 phase s) (λ x. Ok (acked cpu m.0 phase x)) t m.1.1 in
    let raises = not n.0.setting.without.raises in
    let u = with_stop m.0 n.0 (acknowledged cpu phase raises (stop_at n.0 m.0)) in
    keeps_end s (acked cpu m.0 phase n.0) t (cc)
    (keeps_then s n.0 (acked cpu m.0 phase n.0) (keeps_may_ack cpu m.0 phase s n.0 n.1.0)
    (keeps_then n.0 u (acked cpu m.0 phase n.0)
    (keeps_put m.0 n.0 (acknowledged cpu phase raises (stop_at n.0 m.0)) (acknowledged_is cpu phase raises (stop_at n.0 m.0)))
    (keeps_switched u cpu m.0 phase)))

raised_told : (cpu phase : ℕ) (stop to : Stop) → raised cpu phase stop ≡ Ok to → told_of to ≡ told_of stop
unfolding raised
raised_told cpu phase stop to e = search (passed, raised_is, arith)

keeps_raise : (cpu phase : ℕ) (s t : StateValue) → raise_by cpu phase s ≡ Ok t → Keeps s t
unfolding raise_by
keeps_raise cpu phase s t e =
    let m = both_made (in_round cpu s) (λ number. on_stop number s (raised cpu phase (stop_at s number)) >>= λ x. Ok (switched_on cpu phase x)) t e in
    let made = raised cpu phase (stop_at s m.0) in
    let n = both_made (on_stop m.0 s made) (λ x. Ok (switched_on cpu phase x)) t m.1.1 in
    let old = keeps_stop m.0 s n.0 made (λ to is. raised_told cpu phase (stop_at s m.0) to is) n.1.0 in
    keeps_end s (switched_on cpu phase n.0) t (cc)
    (keeps_if s (with_irq cpu true n.0) n.0 (n.0.setting.without.switches && (phase == OVER))
    (keeps_then s n.0 (with_irq cpu true n.0) old (keeps_same n.0 (with_irq cpu true n.0) refl)) old)

keeps_run : (cpu func arg : ℕ) (s t : StateValue) → run_by cpu func arg s ≡ Ok t → Keeps s t
keeps_run cpu func arg s t e =
    let i = run_is s t cpu func arg e in
    let to = record (stop_at s i.0.number) { ran = slice_set (stop_at s i.0.number).ran cpu true } in
    keeps_end s (with_stop i.0.number s to) t i.1 (keeps_put i.0.number s to refl)

collected_told : (who : Option ℕ) (stop to : Stop) (answer : ℤ) → collected_with who answer stop ≡ Ok to → told_of to ≡ told_of stop
collected_told who stop to answer e = ap (λ x. told_of x) (sym (collected_is who stop to answer e).1)

keeps_collect : (number : ℕ) (answer : ℤ) (s t : StateValue) → collect_by number answer s ≡ Ok t → Keeps s t
unfolding collect_by collected
keeps_collect number answer s t e =
    let stop = stop_at s number in
    let made = collected_with (unfinished stop) answer stop in
    let p = passed (nat_lt number 64 && stop.is_open) (on_stop number s made) (reason.StopNotOpen number) t e in
    keeps_stop number s t made (λ to is. collected_told (unfinished stop) stop to answer is) p.1

keeps_made_store : (next : Option (Place × ℕ)) (number : ℕ) (patch : Patch) (place : Place) (word : ℕ) (s t : StateValue)
    → made_store next number patch place word s ≡ Ok t → Keeps s t
keeps_made_store None number patch place word s t e = absurd cc
keeps_made_store (Some next) number patch place word s t e =
    let m = with_word place word s in
    let u = with_patch number (popped patch place) m in
    let p = passed (is_store next place word) (Ok u) (to_be next) t e in
    let to = record (stop_at m number) { patch = Some (popped patch place) } in
    keeps_end s u t (cc) (keeps_then s m u (keeps_same s m refl) (keeps_put number m to refl))

keeps_patch : (cpu : ℕ) (place : Place) (word : ℕ) (s t : StateValue) → patch_by cpu place word s ≡ Ok t → Keeps s t
unfolding patch_by
keeps_patch cpu place word s t e =
    let m = both_made (in_patch cpu s) (λ number. made_store (next_store number s) number (patch_left number s) place word s) t e in
    keeps_made_store (next_store m.0 s) m.0 (patch_left m.0 s) place word s t m.1.1

keeps_label : (cpu : ℕ) (e : LabelEvent) (s t : StateValue) → label_goes cpu e s ≡ Ok t → Keeps s t
unfolding label_goes
keeps_label cpu (labels.Set key count) s t e = keeps_patch cpu (Key key) count s t e
keeps_label cpu (labels.Turn site jumps) s t e = keeps_patch cpu (Site site) (site_word jumps) s t e
keeps_label cpu (labels.Key key on) s t e = keeps_after s s t (key_by cpu key on s) e (keeps_same s s refl)
keeps_label cpu (labels.Site site jumps) s t e = keeps_after s s t (site_by cpu site jumps s) e (keeps_same s s refl)
keeps_label cpu (labels.Nudge key up) s t e = search (both_made, keeps_end, keeps_same, arith)

told_kept : (enters : ℕ → ℕ → Bool) (answers : ℕ → ℕ → Option ℤ) (s t : StateValue) → Told enters answers s → Keeps s t → Told enters answers t
told_kept enters answers s t h k = record {
  each = λ number low. stop_told (enters number) (answers number) (stop_at s number) (stop_at t number) (k.same number) (h.each number low);
}

told_end : (enters : ℕ → ℕ → Bool) (answers : ℕ → ℕ → Option ℤ) (s t : StateValue) → s ≡ t → Told enters answers s → Told enters answers t
told_end enters answers s t same told = subst (λ (x : StateValue). Told enters answers x) same told

-- one stop is changed, and what the events tell of it
told_at : (enters enters' : ℕ → ℕ → Bool) (answers answers' : ℕ → ℕ → Option ℤ) (number : ℕ) (s : StateValue) (stop : Stop) → number < length s.stops
    → StopTold (enters' number) (answers' number) stop
    → ((other : ℕ) → other ≢ number → StopTold (enters other) (answers other) (stop_at s other) → StopTold (enters' other) (answers' other) (stop_at s other))
    → Told enters answers s → (other : ℕ) → other < 64 → other ≡ number ⊎ other ≢ number
    → StopTold (enters' other) (answers' other) (stop_at (with_stop number s stop) other)
told_at enters enters' answers answers' number s stop low here elsewhere h other below (inl same) = rw (same, stop_changed number s stop low) here
told_at enters enters' answers answers' number s stop low here elsewhere h other below (inr ne) =
    rw (stop_kept other number s stop ne) (elsewhere other ne (h.each other below))

told_put : (enters enters' : ℕ → ℕ → Bool) (answers answers' : ℕ → ℕ → Option ℤ) (number : ℕ) (s : StateValue) (stop : Stop) → number < length s.stops
    → StopTold (enters' number) (answers' number) stop
    → ((other : ℕ) → other ≢ number → StopTold (enters other) (answers other) (stop_at s other) → StopTold (enters' other) (answers' other) (stop_at s other))
    → Told enters answers s → Told enters' answers' (with_stop number s stop)
told_put enters enters' answers answers' number s stop low here elsewhere h = record {
  each = λ other below. told_at enters enters' answers answers' number s stop low here elsewhere h other below (cases_eq other number);
}

-- what all the events tell, after one more
abbrev enters_all : (ℕ → ℕ → Bool) → ℕ × Event → ℕ → ℕ → Bool
enters_all enters e number cpu = entered_next number cpu (enters number cpu) e

abbrev answers_all : (ℕ → Seen) → (ℕ → ℕ → Option ℤ) → ℕ × Event → ℕ → ℕ → Option ℤ
answers_all views answers e number cpu = answer_next number cpu (views cpu) (answers number cpu) e

-- a stop is opened: nobody has entered it, and no CPU has answered
opened_told : (enters : ℕ → Bool) (answers : ℕ → Option ℤ) (number : ℕ) (task : Task)
    → StopTold (λ cpu. if number == number then false else enters cpu) (λ cpu. if number == number then None else answers cpu) (opening task)
opened_told enters answers number task =
    let t : (number == number) ≡ true = eq-eqb number number refl in
    rw t (record {
      entered_is = λ cpu low. get_or-replicate 32 cpu false false low;
      answers_are = λ cpu low. get_or-replicate 32 cpu None None low;
    })

-- another one is as it was
other_opened : (enters : ℕ → Bool) (answers : ℕ → Option ℤ) (number other : ℕ) (stop : Stop) → other ≢ number → StopTold enters answers stop
    → StopTold (λ cpu. if number == other then false else enters cpu) (λ cpu. if number == other then None else answers cpu) stop
other_opened enters answers number other stop ne h =
    let t : (number == other) ≡ false = ne_eqb number other (λ e. ne (sym e)) in rw t h

open_told : (views : ℕ → Seen) (enters : ℕ → ℕ → Bool) (answers : ℕ → ℕ → Option ℤ) (cpu number : ℕ) (task : Task) (s t : StateValue) → length s.stops ≡ 64
    → Told enters answers s → open_by cpu number task s ≡ Ok t
    → Told (enters_all enters (cpu, event.Stop (stops.Open number task))) (answers_all views answers (cpu, event.Stop (stops.Open number task))) t
open_told views enters answers cpu number task s t long h e =
    let o = open_is s t cpu number task e in
    let ev : ℕ × Event = (cpu, event.Stop (stops.Open number task)) in
    told_end (enters_all enters ev) (answers_all views answers ev) (with_stop number s (opening task)) t o.made
    (told_put enters (enters_all enters ev) answers (answers_all views answers ev) number s (opening task) (rw long o.low)
    (opened_told (enters number) (answers number) number task)
    (λ other ne old. other_opened (enters other) (answers other) number other (stop_at s other) ne old) h)

-- What an event that enters a stop finds, and what it makes.
pub record Enters (s t : StateValue) (cpu number : ℕ) : Type 0 where
  pub low : number < 64
  pub is : (stop_at s number).is_open ≡ true
  pub called : has (stop_at s number).task.mask cpu ≡ true
  pub new : slice_index_or (stop_at s number).entered cpu false ≡ false
  pub made : with_inside cpu (Some number) (with_stop number s (record (stop_at s number) { entered = slice_set (stop_at s number).entered cpu true })) ≡ t

called_is : (mask entered : Bool) → (mask && not entered) ≡ true → (mask ≡ true) × (entered ≡ false)
called_is true false e = (refl, refl)
called_is true true e = absurd cc
called_is false entered e = absurd cc

-- a stop is changed, and then whether a CPU is in one
changed_end : (cpu number : ℕ) (inside : Option ℕ) (s m t : StateValue) (to new : Stop) → to ≡ new → with_stop number s new ≡ m → with_inside cpu inside m ≡ t
    → with_inside cpu inside (with_stop number s to) ≡ t
changed_end cpu number inside s m t to new same put end =
    ap (λ x. with_inside cpu inside (with_stop number s x)) same ∙ ap (λ x. with_inside cpu inside x) put ∙ end

entered_made : (stop to : Stop) (cpu : ℕ) → entered cpu stop ≡ Ok to
    → (is_called stop cpu ≡ true) × (record stop { entered = slice_set stop.entered cpu true } ≡ to)
unfolding entered
entered_made stop to cpu e =
    let p = passed (is_called stop cpu) (Ok (record stop { entered = slice_set stop.entered cpu true })) (reason.NotCalled cpu) to e in (p.0, cc)

entered_open_is : (cpu number : ℕ) (s t : StateValue) → entered_open cpu number s ≡ Ok t → Enters s t cpu number
entered_open_is cpu number s t e =
    let stop = stop_at s number in
    let made = on_stop number s (entered cpu stop) in
    let p = passed (nat_lt number 64 && stop.is_open) (made >>= λ x. Ok (with_inside cpu (Some number) x)) (reason.StopNotOpen number) t e in
    let b = and_parts (nat_lt number 64) stop.is_open p.0 in
    let m = both_made made (λ x. Ok (with_inside cpu (Some number) x)) t p.1 in
    let n = both_made (entered cpu stop) (λ x. Ok (with_stop number s x)) m.0 m.1.0 in
    let k = entered_made stop n.0 cpu n.1.0 in
    let c = called_is (has stop.task.mask cpu) (slice_index_or stop.entered cpu false) k.0 in
    record {
      low = ltb-true number 64 b.0;
      is = b.1;
      called = c.0;
      new = c.1;
      made = changed_end cpu number (Some number) s m.0 t (record stop { entered = slice_set stop.entered cpu true }) n.0 k.1 (cc) (cc);
    }

enter_from_is : (inside : Result ℕ Reason) (cpu number : ℕ) (s t : StateValue) → enter_from inside cpu number s ≡ Ok t
    → ((x : ℕ) → inside ≡ Ok x → ⊥) × Enters s t cpu number
enter_from_is (Ok inside) cpu number s t e = absurd cc
enter_from_is (Err why) cpu number s t e = ((λ x f. absurd cc), entered_open_is cpu number s t e)

pub enter_is : (cpu number : ℕ) (s t : StateValue) → enter_by cpu number s ≡ Ok t → ((x : ℕ) → stop_of cpu s ≡ Ok x → ⊥) × Enters s t cpu number
unfolding enter_by
enter_is cpu number s t e = enter_from_is (stop_of cpu s) cpu number s t e

-- a place of a list is set
pub set_told : {A : Type 0} (xs : List A) (actor cpu : ℕ) (new none : A) → actor < length xs → cpu ≡ actor ⊎ cpu ≢ actor
    → slice_index_or (slice_set xs actor new) cpu none ≡ (if actor == cpu then new else slice_index_or xs cpu none)
set_told xs actor cpu new none low h = search (get_or-set_same, get_or-set_other, eq-eqb, ne_eqb, arith)

-- a CPU has entered a stop
entered_told : (enters : ℕ → Bool) (answers : ℕ → Option ℤ) (number actor : ℕ) (stop : Stop) → actor < length stop.entered → StopTold enters answers stop
    → StopTold (λ cpu. if (number == number) && (actor == cpu) then true else enters cpu) answers
    (record stop { entered = slice_set stop.entered actor true })
entered_told enters answers number actor stop low h =
    let t : (number == number) ≡ true = eq-eqb number number refl in
    rw t (record {
      entered_is = λ cpu below. set_told stop.entered actor cpu true false low (cases_eq cpu actor)
          ∙ ap (λ x. if actor == cpu then true else x) (h.entered_is cpu below);
      answers_are = h.answers_are;
    })

other_entered : (enters : ℕ → Bool) (answers : ℕ → Option ℤ) (number other actor : ℕ) (stop : Stop) → other ≢ number → StopTold enters answers stop
    → StopTold (λ cpu. if (number == other) && (actor == cpu) then true else enters cpu) answers stop
other_entered enters answers number other actor stop ne h =
    let t : (number == other) ≡ false = ne_eqb number other (λ e. ne (sym e)) in rw t h

enter_told : (views : ℕ → Seen) (works : ℕ → Option Task) (enters : ℕ → ℕ → Bool) (answers : ℕ → ℕ → Option ℤ) (cpu number : ℕ) (s t : StateValue) → cpu < 32
    → Rounds views works s → Told enters answers s → enter_by cpu number s ≡ Ok t
    → Told (enters_all enters (cpu, event.Stop (stops.Enter number))) (answers_all views answers (cpu, event.Stop (stops.Enter number))) t
enter_told views works enters answers cpu number s t below r h e =
    let i = (enter_is cpu number s t e).1 in
    let ev : ℕ × Event = (cpu, event.Stop (stops.Enter number)) in
    let to = record (stop_at s number) { entered = slice_set (stop_at s number).entered cpu true } in
    let m = with_stop number s to in
    told_end (enters_all enters ev) answers (with_inside cpu (Some number) m) t i.made
    (told_kept (enters_all enters ev) answers m (with_inside cpu (Some number) m)
    (told_put enters (enters_all enters ev) answers answers number s to (rw r.stops_are i.low)
    (entered_told (enters number) (answers number) number cpu (stop_at s number) (rw (r.stop number i.low).entered_are below) (h.each number i.low))
    (λ other ne old. other_entered (enters other) (answers other) number other cpu (stop_at s other) ne old) h)
    (keeps_same m (with_inside cpu (Some number) m) refl))

-- What an event that completes a stop finds, and what it makes.
pub record Completes (s t : StateValue) (cpu : ℕ) (answer : ℤ) : Type 0 where
  pub number : ℕ
  pub low : number < 64
  pub inside : (cpu_at s cpu).inside ≡ Some number
  pub made : with_inside cpu None (with_stop number s (record (stop_at s number) { answers = slice_set (stop_at s number).answers cpu (Some answer) })) ≡ t

pub complete_is : (cpu : ℕ) (answer : ℤ) (s t : StateValue) → complete_by cpu answer s ≡ Ok t → Completes s t cpu answer
unfolding complete_by
complete_is cpu answer s t e =
    let made = λ (number : ℕ). completed cpu answer (cpu_at s cpu).irq (stop_at s number) in
    let m = both_made (stop_of cpu s) (λ number. on_stop number s (made number) >>= λ x. Ok (with_inside cpu None x)) t e in
    let o = stop_of_is s cpu m.0 m.1.0 in
    let stop = stop_at s m.0 in
    let n = both_made (on_stop m.0 s (made m.0)) (λ x. Ok (with_inside cpu None x)) t m.1.1 in
    let k = both_made (made m.0) (λ x. Ok (with_stop m.0 s x)) n.0 n.1.0 in
    let c = completed_is stop k.0 cpu answer (cpu_at s cpu).irq k.1.0 in
    record {
      number = m.0;
      low = o.1;
      inside = o.0;
      made = changed_end cpu m.0 None s n.0 t (record stop { answers = slice_set stop.answers cpu (Some answer) }) k.0 c.1 (cc) (cc);
    }

-- whose answer it is, and of which stop
pub here_told : {A : Type 0} (number : ℕ) (inside : Option ℕ) (mine : Bool) (new old : A) → (mine ≡ true → inside ≡ Some number)
    → (if mine then new else old) ≡ (if mine && is_in inside number then new else old)
here_told number inside true new old is = let t : (number == number) ≡ true = eq-eqb number number refl in rw (is refl, t) refl
here_told number inside false new old is = refl

pub other_told : {A : Type 0} (number other : ℕ) (inside : Option ℕ) (mine : Bool) (new old : A) → other ≢ number → (mine ≡ true → inside ≡ Some number)
    → old ≡ (if mine && is_in inside other then new else old)
other_told number other inside true new old ne is =
    let t : (number == other) ≡ false = ne_eqb number other (λ e. ne (sym e)) in rw (is refl, t) refl
other_told number other inside false new old ne is = refl

-- a CPU has completed a stop
completed_told : (views : ℕ → Seen) (enters : ℕ → Bool) (answers : ℕ → Option ℤ) (number actor : ℕ) (answer : ℤ) (stop : Stop) → actor < length stop.answers
    → (views actor).inside ≡ Some number → StopTold enters answers stop
    → StopTold enters (λ cpu. if (actor == cpu) && is_in (views cpu).inside number then Some answer else answers cpu)
    (record stop { answers = slice_set stop.answers actor (Some answer) })
completed_told views enters answers number actor answer stop low inside h = record {
  entered_is = h.entered_is;
  answers_are = λ cpu below. set_told stop.answers actor cpu (Some answer) None low (cases_eq cpu actor)
      ∙ ap (λ x. if actor == cpu then Some answer else x) (h.answers_are cpu below)
      ∙ here_told number (views cpu).inside (actor == cpu) (Some answer) (answers cpu)
      (λ mine. ap (λ n. (views n).inside) (sym (eqb-true actor cpu mine)) ∙ inside);
}

other_completed : (views : ℕ → Seen) (enters : ℕ → Bool) (answers : ℕ → Option ℤ) (number other actor : ℕ) (answer : ℤ) (stop : Stop) → other ≢ number
    → (views actor).inside ≡ Some number → StopTold enters answers stop
    → StopTold enters (λ cpu. if (actor == cpu) && is_in (views cpu).inside other then Some answer else answers cpu) stop
other_completed views enters answers number other actor answer stop ne inside h = record {
  entered_is = h.entered_is;
  answers_are = λ cpu below. h.answers_are cpu below
      ∙ other_told number other (views cpu).inside (actor == cpu) (Some answer) (answers cpu) ne
      (λ mine. ap (λ n. (views n).inside) (sym (eqb-true actor cpu mine)) ∙ inside);
}

complete_told : (views : ℕ → Seen) (works : ℕ → Option Task) (enters : ℕ → ℕ → Bool) (answers : ℕ → ℕ → Option ℤ) (cpu : ℕ) (answer : ℤ) (s t : StateValue)
    → cpu < 32 → Rounds views works s → Told enters answers s → complete_by cpu answer s ≡ Ok t
    → Told enters (answers_all views answers (cpu, event.Stop (stops.Complete answer))) t
complete_told views works enters answers cpu answer s t below r h e =
    let c = complete_is cpu answer s t e in
    let number = c.number in
    let now = answers_all views answers (cpu, event.Stop (stops.Complete answer)) in
    let inside : (views cpu).inside ≡ Some number = sym (r.cpu cpu below).inside_is ∙ c.inside in
    let to = record (stop_at s number) { answers = slice_set (stop_at s number).answers cpu (Some answer) } in
    let m = with_stop number s to in
    told_end enters now (with_inside cpu None m) t c.made
    (told_kept enters now m (with_inside cpu None m)
    (told_put enters enters answers now number s to (rw r.stops_are c.low)
    (completed_told views (enters number) (answers number) number cpu answer (stop_at s number) (rw (r.stop number c.low).answers_are below) inside
    (h.each number c.low))
    (λ other ne old. other_completed views (enters other) (answers other) number other cpu answer (stop_at s other) ne inside old) h)
    (keeps_same m (with_inside cpu None m) refl))

stop_event_told : (views : ℕ → Seen) (works : ℕ → Option Task) (enters : ℕ → ℕ → Bool) (answers : ℕ → ℕ → Option ℤ) (cpu : ℕ) (e : StopEvent) (s t : StateValue)
    → Rounds views works s → Told enters answers s → stop_goes cpu e s ≡ Ok t
    → Told (enters_all enters (cpu, event.Stop e)) (answers_all views answers (cpu, event.Stop e)) t
unfolding stop_goes inside_goes gate_by
stop_event_told views works enters answers cpu stops.Gate s t r h e = told_kept enters answers s t h (gate_keeps s.gate cpu s t e)
stop_event_told views works enters answers cpu stops.Ungate s t r h e = told_kept enters answers s t h (ungate_keeps cpu s t e)
stop_event_told views works enters answers cpu (stops.Open number task) s t r h e = open_told views enters answers cpu number task s t r.stops_are h e
stop_event_told views works enters answers cpu (stops.Enter number) s t r h e =
    let low = low_event cpu _ t e in enter_told views works enters answers cpu number s t low.0 r h low.1
stop_event_told views works enters answers cpu (stops.Ack phase) s t r h e =
    told_kept enters answers s t h (keeps_ack cpu phase s t (low_event cpu _ t e).1)
stop_event_told views works enters answers cpu (stops.Raise phase) s t r h e =
    told_kept enters answers s t h (keeps_raise cpu phase s t (low_event cpu _ t e).1)
stop_event_told views works enters answers cpu stops.Off s t r h e =
    let m = with_irq cpu false s in told_kept enters answers s t h (keeps_end s m t (off_is cpu s t (low_event cpu _ t e).1) (keeps_same s m refl))
stop_event_told views works enters answers cpu stops.On s t r h e =
    let m = with_irq cpu true s in told_kept enters answers s t h (keeps_end s m t (on_is cpu s t (low_event cpu _ t e).1) (keeps_same s m refl))
stop_event_told views works enters answers cpu (stops.Run func arg) s t r h e =
    told_kept enters answers s t h (keeps_run cpu func arg s t (low_event cpu _ t e).1)
stop_event_told views works enters answers cpu (stops.Complete answer) s t r h e =
    let low = low_event cpu _ t e in complete_told views works enters answers cpu answer s t low.0 r h low.1
stop_event_told views works enters answers cpu (stops.Collect number answer) s t r h e =
    told_kept enters answers s t h (keeps_collect number answer s t e)

-- each event does what it tells
told_goes : (views : ℕ → Seen) (works : ℕ → Option Task) (enters : ℕ → ℕ → Bool) (answers : ℕ → ℕ → Option ℤ) (cpu : ℕ) (e : Event) (s t : StateValue)
    → Rounds views works s → Told enters answers s → goes cpu e s ≡ Ok t → Told (enters_all enters (cpu, e)) (answers_all views answers (cpu, e)) t
told_goes views works enters answers cpu (event.Call e) s t r h g =
    told_kept enters answers s t h (keeps_same s t (call_keeps_rounds cpu e s t g).stops_are)
told_goes views works enters answers cpu (event.Stop e) s t r h g = stop_event_told views works enters answers cpu e s t r h g
told_goes views works enters answers cpu (event.Label e) s t r h g =
    told_kept enters answers s t h (keeps_label cpu e s t (low_event cpu _ t g).1)

told_runs : (views : ℕ → Seen) (works : ℕ → Option Task) (enters : ℕ → ℕ → Bool) (answers : ℕ → ℕ → Option ℤ) (es : List (ℕ × Event)) (s t : StateValue)
    → Rounds views works s → Told enters answers s → Runs s es t
    → Told (λ number cpu. entered_from number cpu (enters number cpu) es) (λ number cpu. answered_from number cpu (views cpu) (answers number cpu) es) t
unfolding entered_from answered_from
told_runs views works enters answers [] s t r h run = told_end enters answers s t (sym run) h
told_runs views works enters answers (e ∷ es) s t r h (m, (g, run)) =
    told_runs (seen_all views e) (work_all works e) (enters_all enters e) (answers_all views answers e) es m t (rounds_goes views works e.0 e.1 s m r g)
    (told_goes views works enters answers e.0 e.1 s m r h g) run

closed_told : (mask : ℕ) → StopTold (λ cpu. false) (λ cpu. None) (closed mask)
closed_told mask = record {
  entered_is = λ cpu low. get_or-replicate 32 cpu false false low;
  answers_are = λ cpu low. get_or-replicate 32 cpu None None low;
}

told_at_first : (u : Setting) (words : LabelWords) → Told (λ number cpu. false) (λ number cpu. None) (at_first u words)
told_at_first u words = record { each = λ number low. rw (stop_at_first u words number low) (closed_told u.online) }

told_of_trace : (u : Setting) (words : LabelWords) (es : List (ℕ × Event)) (s : StateValue) → IsTrace u words es s
    → Told (λ number cpu. has_entered number cpu es) (λ number cpu. answered number cpu es) s
told_of_trace u words es s run =
    told_runs (λ cpu. unseen) (λ number. None) (λ number cpu. false) (λ number cpu. None) es (at_first u words) s (rounds_at_first u words)
    (told_at_first u words) run

-- a CPU in a stop has the number of one
none_inside : (inside : Option ℕ) (cpu : ℕ) → ((x : ℕ) → inside ≡ Some x → x < 64) → ((x : ℕ) → stop_in inside cpu ≡ Ok x → ⊥) → inside ≡ None
none_inside None cpu below out = refl
none_inside (Some x) cpu below out = absurd (out x (let t : nat_lt x 64 ≡ true = lt-ltb x 64 (below x refl) in rw t refl))

-- an event that enters a stop finds what the events tell
may_enter : (es : List (ℕ × Event)) (cpu number : ℕ) (s t : StateValue) → Rounds (λ cpu. seen cpu es) (λ number. work number es) s
    → Told (λ number cpu. has_entered number cpu es) (λ number cpu. answered number cpu es) s → stop_goes cpu (stops.Enter number) s ≡ Ok t
    → MayEnter es cpu number
unfolding stop_goes inside_goes
may_enter es cpu number s t r h e =
    let low = low_event cpu _ t e in
    let i = enter_is cpu number s t low.1 in
    let q = r.cpu cpu low.0 in
    record {
      task = (stop_at s number).task;
      opened = (r.stop number i.1.low).work_is i.1.is;
      called = i.1.called;
      outside = sym q.inside_is ∙ none_inside (cpu_at s cpu).inside cpu q.below i.0;
      once = sym ((h.each number i.1.low).entered_is cpu low.0) ∙ i.1.new;
    }

pub enters_are_called : EntersAreCalled
enters_are_called u words es t cpu number run =
    let m = runs_last es (cpu, event.Stop (stops.Enter number)) (at_first u words) t run in
    may_enter es cpu number m.0 t (rounds_of u words es m.0 m.1.0) (told_of_trace u words es m.0 m.1.0) m.1.1

-- and so does one that collects a result
is_result : (es : List (ℕ × Event)) (cpu number : ℕ) (answer : ℤ) (s t : StateValue) → Rounds (λ cpu. seen cpu es) (λ number. work number es) s
    → Told (λ number cpu. has_entered number cpu es) (λ number cpu. answered number cpu es) s → stop_goes cpu (stops.Collect number answer) s ≡ Ok t
    → IsResult number es answer
unfolding stop_goes
is_result es cpu number answer s t r h e =
    let c = collect_is s t number answer e in result_is number es s answer c ((r.stop number c.low).work_is c.is) (h.each number c.low)

pub results_are_of_all : ResultsAreOfAll
results_are_of_all u words es t cpu number answer run =
    let m = runs_last es (cpu, event.Stop (stops.Collect number answer)) (at_first u words) t run in
    is_result es cpu number answer m.0 t (rounds_of u words es m.0 m.1.0) (told_of_trace u words es m.0 m.1.0) m.1.1
