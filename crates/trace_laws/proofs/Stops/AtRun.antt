-- Functions run, and patches store, only at RUN.
use Rattle.trace_laws.proofs.Names.{Bool, CpuState, Event, IsTrace, Key, Kind, LabelEvent, LabelWords, List, None, Ok, Option, Place, Reason, Result, Runs}
use Rattle.trace_laws.proofs.Names.{Seen, Setting, Site, Some, StateValue, StopEvent, Task, [], acked_by, answer_of, ap, append-nil, arith, closed, cpu_at}
use Rattle.trace_laws.proofs.Names.{ends, false, fresh_cpu, gate_by, gate_with, get_or-replicate, goes, has, has_run, id_of, in_patch, inside_goes, key_by}
use Rattle.trace_laws.proofs.Names.{label_goes, length, length-replicate, made_store, map, may_run, next_store, opening, patch_by, patch_left, refl, replicate}
use Rattle.trace_laws.proofs.Names.{running, seen, site_by, site_word, slice_index_or, stop_at, stop_goes, sym, true, ungate_by, unseen, work, ℕ, ℤ, ◌++◌, ◌<◌}
use Rattle.trace_laws.proofs.Names.{◌>>=◌, ◌∙◌, ◌∷◌, ◌≡◌, ◌≤◌}
use Rattle.smp_words.specs.declared.work.Kind.TheVariants.{Patch}
use Rattle.trace_model.specs.declared.event.Event.TheVariants as event
use Rattle.trace_model.specs.declared.event.LabelEvent.TheVariants as labels
use Rattle.trace_model.specs.declared.event.StopEvent.TheVariants as stops
use Rattle.trace_laws.proofs.Stops.CpusInStops.{RoundAt, Rounds, is_round, member_of, rounds_kept}
use Rattle.trace_laws.proofs.Stops.Ends.{collect_rounds, complete_rounds, open_rounds, run_is, run_rounds}
use Rattle.trace_laws.proofs.Stops.Phases.{StoresIn, ack_rounds, in_patch_is, patch_by_rounds, raise_rounds}
use Rattle.trace_laws.proofs.Stops.StopEvents.{actor_below, acts_at, enter_rounds, off_rounds, on_rounds, rounds_end}
use Rattle.trace_laws.proofs.{Calls.MadeSteps.both_made, Calls.MadeSteps.low_event, Calls.MadeSteps.passed, Calls.OtherEvents.label_keeps_calls}
use Rattle.trace_laws.proofs.{Calls.OtherEvents.stop_keeps_calls}
use Rattle.trace_laws.proofs.{Calls.ShownByTraces.cpus_at_first, Calls.ShownByTraces.end_once, Calls.ShownByTraces.fresh_at, Stops.QuietCpus.call_keeps_rounds}
use Rattle.trace_laws.proofs.{Stops.QuietCpus.idle_is}
use Rattle.trace_laws.specs.StopEvents.{FunctionsRunAtRun, IsAtRun, IsHeld, PatchesStoreAtRun, RunsAt, seen_from, seen_next, stores}
use Rattle.trace_laws.specs.StopEvents.{work_from, work_next}
use Rattle.smp_words.specs.declared.phase.TheConstants.{DISABLE_IRQ, RUN}

gate_rounds : (seen : ℕ → Seen) (work : ℕ → Option Task) (s : StateValue) (gate : Option ℕ) → Rounds seen work s → Rounds seen work (record s { gate = gate })
gate_rounds seen work s gate r = record { cpus_are = r.cpus_are; stops_are = r.stops_are; at = r.at; cpu = r.cpu; away = r.away; stop = r.stop }

words_rounds : (seen : ℕ → Seen) (work : ℕ → Option Task) (s : StateValue) (words : LabelWords) → Rounds seen work s →
    Rounds seen work (record s { words = words })
words_rounds seen work s words r = record { cpus_are = r.cpus_are; stops_are = r.stops_are; at = r.at; cpu = r.cpu; away = r.away; stop = r.stop }

gate_with_rounds : (seen : ℕ → Seen) (work : ℕ → Option Task) (gate : Option ℕ) (cpu : ℕ) (s t : StateValue) → Rounds seen work s →
    gate_with gate cpu s ≡ Ok t → Rounds seen work t
gate_with_rounds seen work gate cpu s t r e = search (rounds_end, gate_rounds, arith)

ungate_rounds : (seen : ℕ → Seen) (work : ℕ → Option Task) (cpu : ℕ) (s t : StateValue) → Rounds seen work s → ungate_by cpu s ≡ Ok t → Rounds seen work t
unfolding ungate_by
ungate_rounds seen work cpu s t r e = search (both_made, rounds_end, gate_rounds, arith)

-- what the events of all CPUs tell, and the works of all stops, after one more
abbrev pub seen_all : (ℕ → Seen) → ℕ × Event → ℕ → Seen
seen_all seen e cpu = seen_next cpu (seen cpu) e

abbrev pub work_all : (ℕ → Option Task) → ℕ × Event → ℕ → Option Task
work_all work e number = work_next number (work number) e

stop_rounds : (seen : ℕ → Seen) (work : ℕ → Option Task) (actor : ℕ) (e : StopEvent) (s t : StateValue) → Rounds seen work s → stop_goes actor e s ≡ Ok t
    → Rounds (seen_all seen (actor, event.Stop e)) (work_all work (actor, event.Stop e)) t
unfolding stop_goes inside_goes gate_by
stop_rounds seen work actor stops.Gate s t r e = gate_with_rounds seen work s.gate actor s t r e
stop_rounds seen work actor stops.Ungate s t r e = ungate_rounds seen work actor s t r e
stop_rounds seen work actor (stops.Open number task) s t r e = open_rounds seen work s t actor number task r e
stop_rounds seen work actor (stops.Enter number) s t r e = let made = low_event actor _ t e in enter_rounds seen work s t number actor r made.0 made.1
stop_rounds seen work actor (stops.Ack phase) s t r e = ack_rounds seen work s t actor phase r (low_event actor _ t e).1
stop_rounds seen work actor (stops.Raise phase) s t r e = raise_rounds seen work s t actor phase r (low_event actor _ t e).1
stop_rounds seen work actor stops.Off s t r e = off_rounds seen work s t actor r (low_event actor _ t e).1
stop_rounds seen work actor stops.On s t r e = on_rounds seen work s t actor r (low_event actor _ t e).1
stop_rounds seen work actor (stops.Run func arg) s t r e = run_rounds seen work s t actor func arg r (low_event actor _ t e).1
stop_rounds seen work actor (stops.Complete answer) s t r e = complete_rounds seen work s t actor answer r (low_event actor _ t e).1
stop_rounds seen work actor (stops.Collect number answer) s t r e = collect_rounds seen work s t number answer r e

after_rounds : (seen : ℕ → Seen) (work : ℕ → Option Task) (s t : StateValue) (test : Result (Unit {0}) Reason) → Rounds seen work s →
    (test >>= λ u. Ok s) ≡ Ok t → Rounds seen work t
after_rounds seen work s t test r e = let m = both_made test (λ u. Ok s) t e in rounds_end seen work s t (cc) r

label_rounds : (seen : ℕ → Seen) (work : ℕ → Option Task) (actor : ℕ) (e : LabelEvent) (s t : StateValue) → Rounds seen work s →
    label_goes actor e s ≡ Ok t → Rounds seen work t
unfolding label_goes
label_rounds seen work actor (labels.Set key count) s t r e = patch_by_rounds seen work s t actor (Key key) count r e
label_rounds seen work actor (labels.Turn site jumps) s t r e = patch_by_rounds seen work s t actor (Site site) (site_word jumps) r e
label_rounds seen work actor (labels.Key key on) s t r e = after_rounds seen work s t (key_by actor key on s) r e
label_rounds seen work actor (labels.Site site jumps) s t r e = after_rounds seen work s t (site_by actor site jumps s) r e
label_rounds seen work actor (labels.Nudge key up) s t r e = search (both_made, rounds_end, words_rounds, arith)

-- each event keeps what holds of CPUs in stops
pub rounds_goes : (seen : ℕ → Seen) (work : ℕ → Option Task) (actor : ℕ) (e : Event) (s t : StateValue) → Rounds seen work s → goes actor e s ≡ Ok t
    → Rounds (seen_all seen (actor, e)) (work_all work (actor, e)) t
rounds_goes seen work actor (event.Call e) s t r g = rounds_kept seen work s t r (call_keeps_rounds actor e s t g)
rounds_goes seen work actor (event.Stop e) s t r g = stop_rounds seen work actor e s t r g
rounds_goes seen work actor (event.Label e) s t r g = label_rounds seen work actor e s t r (low_event actor _ t g).1

rounds_runs : (seen : ℕ → Seen) (work : ℕ → Option Task) (es : List (ℕ × Event)) (s t : StateValue) → Rounds seen work s → Runs s es t
    → Rounds (λ cpu. seen_from cpu (seen cpu) es) (λ number. work_from number (work number) es) t
unfolding seen_from work_from
rounds_runs seen work [] s t r run = rounds_end seen work s t (sym run) r
rounds_runs seen work (e ∷ es) s t r (m, (g, run)) = rounds_runs (seen_all seen e) (work_all work e) es m t (rounds_goes seen work e.0 e.1 s m r g) run

-- before the first event, no stop is open
stops_at_first : (u : Setting) (words : LabelWords) → (opening u words).stops ≡ replicate 64 (closed u.online)
unfolding opening
stops_at_first u words = refl

pub stop_at_first : (u : Setting) (words : LabelWords) (number : ℕ) → number < 64 → stop_at (opening u words) number ≡ closed u.online
stop_at_first u words number low = search (stops_at_first, get_or-replicate, arith)

closed_round : (left_out : Bool) (number cpu mask : ℕ) → cpu < 32 → RoundAt left_out number cpu unseen (member_of cpu (closed mask)) None true
closed_round left_out number cpu mask below =
    let stop = closed mask in
    let acked : acked_by stop cpu ≡ 0 = get_or-replicate {A = ℕ} 32 cpu 0 0 below in
    let ran : has_run stop cpu ≡ false = get_or-replicate 32 cpu false false below in
    let answer : answer_of stop cpu ≡ None = get_or-replicate {A = Option ℤ} 32 cpu None None below in
    record {
      in_stop = λ e. absurd cc;
      is_in = λ o e n. absurd cc;
      out = λ e. record { acked = acked; ran = ran; unanswered = answer };
      up_to = λ k three. omega arith;
      all = λ k m two. absurd (omega arith);
      last = λ e m. absurd cc;
      nobody = λ e. refl;
      answered = λ k four. answer;
      disabled = λ e k two four. absurd cc;
      acked_is = λ e. absurd cc;
      ran_is = λ e. absurd cc;
    }

pub rounds_at_first : (u : Setting) (words : LabelWords) → Rounds (λ cpu. unseen) (λ number. None) (opening u words)
rounds_at_first u words =
    let s = opening u words in
    record {
      cpus_are = cpus_at_first u words;
      stops_are = ap length (stops_at_first u words) ∙ length-replicate 64 (closed u.online);
      at = search (s, u.online, s.setting.without.raises, stop_at_first, fresh_at, closed_round, arith);
      cpu = λ cpu below. let c : cpu_at s cpu ≡ fresh_cpu = fresh_at u words cpu in rw c (record {
        quiet = λ e. absurd cc;
        below = λ x e. absurd cc;
        inside_is
            = refl;
        irq_is = λ e. refl;
      });
      away = λ cpu past below. ap (λ (x : CpuState). x.inside) (fresh_at u words cpu);
      stop = λ number low. let st : stop_at s number ≡ closed u.online = stop_at_first u words number low in rw st (search (length-replicate, arith));
    }

pub rounds_of : (u : Setting) (words : LabelWords) (es : List (ℕ × Event)) (t : StateValue) → IsTrace u words es t →
    Rounds (λ cpu. seen cpu es) (λ number. work number es) t
rounds_of u words es t run = rounds_runs (λ cpu. unseen) (λ number. None) es (opening u words) t (rounds_at_first u words) run

-- the last event of a run
pub runs_last : (es : List (ℕ × Event)) (e : ℕ × Event) (s t : StateValue) → Runs s (es ++ e ∷ []) t → (m : StateValue) × (Runs s es m ×
    (goes e.0 e.1 m ≡ Ok t))
runs_last [] e s t (m, (g, same)) = (s, (refl, g ∙ ap (λ x. Ok x) (sym same)))
runs_last (x ∷ es) e s t (n, (g, run)) = let r = runs_last es e n t run in (r.0, ((n, (g, r.1.0)), r.1.1))

-- an event keeps what the trace is of
pub setting_goes : (actor : ℕ) (e : Event) (s t : StateValue) → goes actor e s ≡ Ok t → t.setting ≡ s.setting
setting_goes actor (event.Call e) s t g = (call_keeps_rounds actor e s t g).setting_is
setting_goes actor (event.Stop e) s t g = (stop_keeps_calls actor e s t g).setting_is
setting_goes actor (event.Label e) s t g = (label_keeps_calls actor e s t (low_event actor _ t g).1).setting_is

pub setting_at_first : (u : Setting) (words : LabelWords) → (opening u words).setting ≡ u
unfolding opening
setting_at_first u words = refl

-- and so does a run
pub setting_runs : (es : List (ℕ × Event)) (s t : StateValue) → Runs s es t → t.setting ≡ s.setting
setting_runs [] s t run = ap (λ x. x.setting) run
setting_runs (e ∷ es) s t (m, (g, run)) = setting_runs es m t run ∙ setting_goes e.0 e.1 s m g

pub entered_is : (test : Bool) (acked : ℕ) → (test ≡ false → acked ≡ 0) → DISABLE_IRQ ≤ acked → test ≡ true
entered_is test acked f h = search arith

-- at RUN, each CPU of the mask is held
pub held_at : (u : Setting) (words : LabelWords) (es : List (ℕ × Event)) (s : StateValue) (number member : ℕ) → IsTrace u words es s → number < 64
    → (stop_at s number).is_open ≡ true → is_round (stop_at s number).task.kind ≡ true → (stop_at s number).phase ≡ RUN → member < 32
    → has (stop_at s number).task.mask member ≡ true → IsHeld u es number member
held_at u words es s number member run low opened_is round at below in_mask =
    let r = rounds_of u words es s run in
    let stop = stop_at s number in
    let c = cpu_at s member in
    let w = r.at number low member below in
    let q = r.cpu member below in
    let two : DISABLE_IRQ ≤ acked_by stop member = omega arith in
    let entered = entered_is (slice_index_or stop.entered member false) (acked_by stop member) (λ e. (w.out e).acked) two in
    let is = w.is_in opened_is entered (w.answered round (omega arith)) in
    let acked = w.acked_is is in
    let off = w.disabled is round two (omega arith) in
    let nobody : running c ≡ [] = ap (λ x. running (record c { current = x })) (idle_is c (q.quiet off)).0 in
    let set : s.setting ≡ u = setting_runs es (opening u words) s run ∙ setting_at_first u words in
    record {
      inside = sym q.inside_is ∙ is;
      disabled = rw (← acked) two;
      not_past = rw (← acked) (omega arith);
      irq = λ told. sym (q.irq_is (ap (λ x. x.without.switches) set ∙ told)) ∙ off;
      quiet = end_once u words es s run member (omega (arith, below)) ∙ ap (λ xs. ends member es ++ map id_of xs) nobody ∙ append-nil (ends member es);
    }

at_run : (u : Setting) (words : LabelWords) (es : List (ℕ × Event)) (s : StateValue) (number cpu : ℕ) → IsTrace u words es s → number < 64
    → (cpu_at s cpu).inside ≡ Some number → is_round (stop_at s number).task.kind ≡ true → (stop_at s number).phase ≡ RUN
    → acked_by (stop_at s number) cpu < RUN
    → has (stop_at s number).task.active cpu ≡ true → IsAtRun u es number cpu (stop_at s number).task
at_run u words es s number cpu run low is round at early active =
    let r = rounds_of u words es s run in
    let below = actor_below s cpu number r.cpus_are r.away is in
    let w = r.at number low cpu below in
    let i = w.in_stop is in
    let all = w.all round i.member (omega arith) in
    let two : acked_by (stop_at s number) cpu ≡ DISABLE_IRQ = omega arith in
    record {
      active = active;
      acked = sym (w.acked_is is) ∙ two;
      all = λ member member_below in_mask. held_at u words es s number member run low i.is_open round at member_below in_mask;
    }

runs_at : (kind : Kind) (u : Setting) (words : LabelWords) (es : List (ℕ × Event)) (s : StateValue) (number cpu : ℕ) → IsTrace u words es s → number < 64
    → (cpu_at s cpu).inside ≡ Some number → (stop_at s number).task.kind ≡ kind → may_run kind cpu (stop_at s number) ≡ Ok tt → (kind ≡ Patch → ⊥)
    → RunsAt kind u es number cpu (stop_at s number).task
runs_at kind u words es s number cpu h1 h2 h3 h4 h5 h6 = search (passed, acts_at, at_run, arith)

pub functions_run_at_run : FunctionsRunAtRun
unfolding stop_goes inside_goes
functions_run_at_run u words es t cpu func arg run = search (runs_last, rounds_of, actor_below, runs_at, run_is, low_event, arith)

stores_in : (s t : StateValue) (cpu : ℕ) (place : Place) (word : ℕ) → patch_by cpu place word s ≡ Ok t → StoresIn s cpu
unfolding patch_by
stores_in s t cpu place word e =
    let m = both_made (in_patch cpu s) (λ number. made_store (next_store number s) number (patch_left number s) place word s) t e in
    (in_patch_is s cpu m.0 m.1.0).0

store_is : (cpu : ℕ) (e : LabelEvent) (s t : StateValue) → label_goes cpu e s ≡ Ok t → stores e ≡ true → StoresIn s cpu
unfolding label_goes
store_is cpu e s t h1 is = search (stores_in, arith)

pub patches_store_at_run : PatchesStoreAtRun
patches_store_at_run u words es t cpu e run is = search (runs_last, rounds_of, actor_below, at_run, store_is, low_event, arith)
