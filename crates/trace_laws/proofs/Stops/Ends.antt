-- A function runs, a CPU completes, and a number opens a stop and collects: what holds of CPUs in stops still does.
use Rattle.trace_laws.proofs.Names.{APatch, Bool, Err, Kind, None, Ok, Option, Reason, Result, Seen, Setting, Some, StateValue, Stop, Task, acked_by, and_parts}
use Rattle.trace_laws.proofs.Names.{answer_of, answer_wanted, ap, arith, cases_eq, collect_by, collected, collected_with, complete_by, completed, cpu_at}
use Rattle.trace_laws.proofs.Names.{eq-eqb, eqb-true, false, first_from, fresh_cpu, get_or-replicate, get_or-set_other, get_or-set_same, has, has_run}
use Rattle.trace_laws.proofs.Names.{if◌then◌else◌, in_stop, int_eq, is_none, length-replicate, length-set, ltb-true, may_complete, may_open, may_run, nat_lt}
use Rattle.trace_laws.proofs.Names.{ne_eqb, not, on_stop, open_by, open_closed, opened, ran_function, refl, run_as, run_by, slice_index_or, slice_set, stop_at}
use Rattle.trace_laws.proofs.Names.{stop_of, suc, sym, true, unfinished, with_inside, with_stop, zero, ℕ, ℤ, ◌&&◌, ◌+◌, ◌<◌, ◌==◌, ◌>>=◌, ◌∙◌, ◌≡◌, ◌≢◌, ◌≤◌}
use Rattle.std.proofs.lemmas.List.{set-get_or}
use Rattle.trace_model.specs.declared.reason.Reason.TheVariants as reason
use Rattle.trace_model.specs.{Stop.first_phase, Stop.opening}
use Rattle.trace_laws.proofs.Stops.CpusInStops.{Change, Rounds, StopChange, changed, changed_to, is_round, put_seen, stop_only}
use Rattle.trace_laws.proofs.Stops.StopEvents.{actor_below, away_left, away_same, ne_truth, rounds_end, stop_of_is, through_is, view_same}
use Rattle.trace_laws.proofs.{Calls.MadeSteps.both_made, Calls.MadeSteps.failed, Calls.MadeSteps.passed}
use Rattle.smp_words.specs.declared.phase.TheConstants.{DISABLE_IRQ, EXIT}

abbrev pub ran_seen : Seen → Seen
ran_seen v = record v { ran = true }

-- A function runs: what is changed.
ran_change : (seen : ℕ → Seen) (work : ℕ → Option Task) (s : StateValue) (number actor : ℕ) → Rounds seen work s → number < 64 →
    (cpu_at s actor).inside ≡ Some number
    → let stop = stop_at s number in
    Change seen work s number actor ran_seen (record stop { ran = slice_set stop.ran actor true }) (cpu_at s actor)
ran_change seen work s number actor r low is =
    let stop = stop_at s number in
    let below = actor_below s actor number r.cpus_are r.away is in
    let old = r.at number low actor below in
    let st = r.stop number low in
    let q = r.cpu actor below in
    let here = old.in_stop is in
    let now : slice_index_or (slice_set stop.ran actor true) actor false ≡ true = get_or-set_same stop.ran actor true false (rw st.ran_are below) in
    record {
      low = below;
      stop_is = search (st.entered_are, st.acked_are, stop.ran, st.ran_are, st.answers_are, st.work_is, length-set, arith);
      cpu_is = record { quiet = q.quiet; below = q.below; inside_is = q.inside_is; irq_is = q.irq_is };
      others = search (stop.ran, s.setting.without.raises, stop, r.at, get_or-set_other, view_same, arith);
      elsewhere = search (s.setting.without.raises, r.at, below, away_same, arith);
      here = record {
        in_stop = λ e. record { is_open = here.is_open; entered = here.entered; unanswered = here.unanswered; member = here.member };
        is_in = old.is_in;
        out = λ e. absurd (ne_truth (slice_index_or stop.entered actor false) here.entered e);
        up_to = old.up_to;
        all = old.all;
        last = old.last;
        nobody = old.nobody;
        answered = old.answered;
        disabled = old.disabled;
        acked_is = old.acked_is;
        ran_is = λ e. now;
      };
    }

-- a stop and a CPU in it are changed, and the CPU is as it was
change_stop : (seen : ℕ → Seen) (work : ℕ → Option Task) (s : StateValue) (number actor : ℕ) (f : Seen → Seen) (stop : Stop) → Rounds seen work s
    → Change seen work s number actor f stop (cpu_at s actor) → Rounds (put_seen actor f seen) work (with_stop number s stop)
change_stop seen work s number actor f stop r ch =
    rounds_end (put_seen actor f seen) work (changed_to number actor s stop (cpu_at s actor)) (with_stop number s stop) (ap (λ cpus. record (with_stop number s
    stop) { cpus = cpus }) (set-get_or (with_stop number s stop).cpus actor fresh_cpu))
    (changed seen work s number actor f stop (cpu_at s actor) r ch)

-- What a function that runs shows.
pub record Ran (stop : Stop) (cpu func arg : ℕ) : Type 0 where
  pub once : has_run stop cpu ≡ false
  pub func_is : stop.task.func ≡ func
  pub arg_is : stop.task.arg ≡ arg
  pub may : may_run stop.task.kind cpu stop ≡ Ok tt

pub ran_is : (stop to : Stop) (cpu func arg : ℕ) → ran_function cpu func arg stop ≡ Ok to
    → Ran stop cpu func arg × (record stop { ran = slice_set stop.ran cpu true } ≡ to)
unfolding ran_function
ran_is stop to cpu func arg e =
    let new = record stop { ran = slice_set stop.ran cpu true } in
    let last : Result Stop Reason = if (stop.task.func == func) && (stop.task.arg == arg) then Ok new else Err (reason.CallIs stop.task.func stop.task.arg) in
    let m = both_made (may_run stop.task.kind cpu stop) (λ u. if has_run stop cpu then Err reason.FunctionHasRun else last) to e in
    let p = failed (has_run stop cpu) last reason.FunctionHasRun to m.1.1 in
    let q = passed ((stop.task.func == func) && (stop.task.arg == arg)) (Ok new) (reason.CallIs stop.task.func stop.task.arg) to p.1 in
    let b = and_parts (stop.task.func == func) (stop.task.arg == arg) q.0 in
    (record { once = p.0; func_is = eqb-true stop.task.func func b.0; arg_is = eqb-true stop.task.arg arg b.1; may = m.1.0 }, cc)

-- A function runs in the stop that the CPU is in.
pub record RunsIn (s : StateValue) (cpu func arg : ℕ) : Type 0 where
  pub number : ℕ
  pub low : number < 64
  pub inside : (cpu_at s cpu).inside ≡ Some number
  pub ran : Ran (stop_at s number) cpu func arg
  pub no_patch : (stop_at s number).task.kind ≡ APatch → ⊥

run_as_made : (kind : Kind) (number cpu func arg : ℕ) (s t : StateValue) → run_as kind number cpu func arg s ≡ Ok t
    → (on_stop number s (ran_function cpu func arg (stop_at s number)) ≡ Ok t) × (kind ≡ APatch → ⊥)
run_as_made kind number cpu func arg s t e = search arith

pub run_is : (s t : StateValue) (cpu func arg : ℕ) → run_by cpu func arg s ≡ Ok t
    → (i : RunsIn s cpu func arg) × (let stop = stop_at s i.number in with_stop i.number s (record stop { ran = slice_set stop.ran cpu true }) ≡ t)
unfolding run_by
run_is s t cpu func arg e =
    let m = both_made (stop_of cpu s) (λ number. run_as (stop_at s number).task.kind number cpu func arg s) t e in
    let o = stop_of_is s cpu m.0 m.1.0 in
    let stop = stop_at s m.0 in
    let a = run_as_made stop.task.kind m.0 cpu func arg s t m.1.1 in
    let n = both_made (ran_function cpu func arg stop) (λ x. Ok (with_stop m.0 s x)) t a.0 in
    let r = ran_is stop n.0 cpu func arg n.1.0 in
    (record { number = m.0; low = o.1; inside = o.0; ran = r.0; no_patch = a.1 }, ap (λ x. with_stop m.0 s x) r.1 ∙ cc)

pub run_rounds : (seen : ℕ → Seen) (work : ℕ → Option Task) (s t : StateValue) (actor func arg : ℕ) → Rounds seen work s → run_by actor func arg s ≡ Ok t
    → Rounds (put_seen actor ran_seen seen) work t
run_rounds seen work s t actor func arg r e =
    let i = run_is s t actor func arg e in
    let number = i.0.number in
    let stop = stop_at s number in
    let to = record stop { ran = slice_set stop.ran actor true } in
    rounds_end (put_seen actor ran_seen seen) work (with_stop number s to) t i.1
    (change_stop seen work s number actor ran_seen to r (ran_change seen work s number actor r i.0.low i.0.inside))

abbrev pub left_seen : Seen → Seen
left_seen v = record v { inside = None }

-- A CPU completes: what is changed.
completed_change : (seen : ℕ → Seen) (work : ℕ → Option Task) (s : StateValue) (number actor : ℕ) (answer : ℤ) → Rounds seen work s → number < 64
    → (cpu_at s actor).inside ≡ Some number → (is_round (stop_at s number).task.kind ≡ true → EXIT ≤ acked_by (stop_at s number) actor)
    → let stop = stop_at s number in
    Change seen work s number actor left_seen (record stop { answers = slice_set stop.answers actor (Some answer) }) (in_stop None (cpu_at s actor))
completed_change seen work s number actor answer r low is past =
    let stop = stop_at s number in
    let below = actor_below s actor number r.cpus_are r.away is in
    let old = r.at number low actor below in
    let st = r.stop number low in
    let q = r.cpu actor below in
    let here = old.in_stop is in
    let now : slice_index_or (slice_set stop.answers actor (Some answer)) actor None ≡ Some answer = get_or-set_same stop.answers actor (Some answer) None
    (rw st.answers_are below) in
    record {
      low = below;
      stop_is = search (st.entered_are, st.acked_are, st.ran_are, stop.answers, st.answers_are, st.work_is, length-set, arith);
      cpu_is = record { quiet = q.quiet; below = λ x e. absurd cc; inside_is = refl; irq_is = q.irq_is };
      others = search (stop.answers, s.setting.without.raises, stop, r.at, get_or-set_other, view_same, arith);
      elsewhere = search (s.setting.without.raises, r.at, below, away_left, arith);
      here = search (now, stop.entered, here.entered, old.up_to, old.all, old.last, old.nobody, ne_truth, ran_is, arith);
    }

may_complete_past : (kind : Kind) (cpu : ℕ) (irq : Bool) (stop : Stop) (u : Unit {0}) → may_complete kind cpu irq stop ≡ Ok u → is_round kind ≡ true →
    EXIT ≤ acked_by stop cpu
may_complete_past kind cpu irq stop u h1 h2 = search (both_made, through_is, arith)

pub completed_is : (stop to : Stop) (cpu : ℕ) (answer : ℤ) (irq : Bool) → completed cpu answer irq stop ≡ Ok to
    → (is_round stop.task.kind ≡ true → EXIT ≤ acked_by stop cpu) × (record stop { answers = slice_set stop.answers cpu (Some answer) } ≡ to)
unfolding completed
completed_is stop to cpu answer irq e =
    let new = record stop { answers = slice_set stop.answers cpu (Some answer) } in
    let test = not (has_run stop cpu) && not (int_eq answer (answer_wanted stop cpu)) in
    let m = both_made (may_complete stop.task.kind cpu irq stop) (λ u. if test then Err (reason.AnswerIs (answer_wanted stop cpu)) else Ok new) to e in
    let p = failed test (Ok new) (reason.AnswerIs (answer_wanted stop cpu)) to m.1.1 in
    (may_complete_past stop.task.kind cpu irq stop m.0 m.1.0, cc)

pub complete_rounds : (seen : ℕ → Seen) (work : ℕ → Option Task) (s t : StateValue) (actor : ℕ) (answer : ℤ) → Rounds seen work s →
    complete_by actor answer s ≡ Ok t
    → Rounds (put_seen actor left_seen seen) work t
unfolding complete_by
complete_rounds seen work s t actor answer r e =
    let made = λ (number : ℕ). completed actor answer (cpu_at s actor).irq (stop_at s number) in
    let m = both_made (stop_of actor s) (λ number. on_stop number s (made number) >>= λ x. Ok (with_inside actor None x)) t e in
    let o = stop_of_is s actor m.0 m.1.0 in
    let stop = stop_at s m.0 in
    let n = both_made (on_stop m.0 s (made m.0)) (λ x. Ok (with_inside actor None x)) t m.1.1 in
    let k = both_made (made m.0) (λ x. Ok (with_stop m.0 s x)) n.0 n.1.0 in
    let c = completed_is stop k.0 actor answer (cpu_at s actor).irq k.1.0 in
    let to = record stop { answers = slice_set stop.answers actor (Some answer) } in
    let end : with_stop m.0 s to ≡ n.0 = ap (λ x. with_stop m.0 s x) c.1 ∙ cc in
    let same : changed_to m.0 actor s to (in_stop None (cpu_at s actor)) ≡ t = ap (λ x. with_inside actor None x) end ∙ cc in
    rounds_end (put_seen actor left_seen seen) work (changed_to m.0 actor s to (in_stop None (cpu_at s actor))) t same
    (changed seen work s m.0 actor left_seen to (in_stop None (cpu_at s actor)) r (completed_change seen work s m.0 actor answer r o.1 o.0 c.0))

-- where the least that passes is none, none passes
first_none_by : (passes : ℕ → Bool) (c more n : ℕ) (test : Bool) → passes c ≡ test → (if test then Some c else first_from passes (c + 1) more) ≡ None
    → (first_from passes (c + 1) more ≡ None → (c ≡ n → ⊥) → passes n ≡ false) → passes n ≡ false
first_none_by passes c more n test h1 h2 h3 = search (cases_eq, arith)

pub first_none : (passes : ℕ → Bool) (c more : ℕ) → first_from passes c more ≡ None → (n : ℕ) → c ≤ n → n < c + more → passes n ≡ false
unfolding first_from
first_none passes c zero e n le lt = absurd (omega arith)
first_none passes c (suc more) e n le lt =
    first_none_by passes c more n (passes c) refl e (λ f ne. first_none passes (c + 1) more f n (omega arith) (omega arith))

pub collected_is : (who : Option ℕ) (stop to : Stop) (answer : ℤ) → collected_with who answer stop ≡ Ok to → (who ≡ None) ×
    (record stop { is_open = false } ≡ to)
collected_is who stop to answer e = search (passed, arith)

pub none_is : (answer : Option ℤ) (mask : Bool) → (mask && is_none answer) ≡ false → mask ≡ true → answer ≡ None → ⊥
none_is answer mask e m n = search arith

-- A stop is closed: what is changed.
closed_change : (seen : ℕ → Seen) (work : ℕ → Option Task) (s : StateValue) (number : ℕ) → Rounds seen work s → number < 64 →
    unfinished (stop_at s number) ≡ None
    → StopChange seen (work number) s number (record (stop_at s number) { is_open = false })
closed_change seen work s number r low none =
    let stop = stop_at s number in
    let st = r.stop number low in
    record {
      stop_is = record { entered_are = st.entered_are; acked_are = st.acked_are; ran_are = st.ran_are; answers_are = st.answers_are; work_is = λ e. absurd cc };
      each = λ cpu below.
          let old = r.at number low cpu below in
          let gone = λ (e : (cpu_at s cpu).inside ≡ Some number). let i = old.in_stop e in none_is (answer_of stop cpu)
          (has stop.task.mask cpu) (first_none (λ c. has stop.task.mask c && is_none (answer_of stop c)) 0 32 none cpu (omega arith) (omega arith)) i.member
          i.unanswered in
          record {
            in_stop = λ e. absurd (gone e);
            is_in = λ o e n. absurd cc;
            out = λ e. let x = old.out e in record { acked = x.acked; ran = x.ran; unanswered = x.unanswered };
            up_to = old.up_to;
            all = old.all;
            last = old.last;
            nobody = old.nobody;
            answered = old.answered;
            disabled = λ e k two four. absurd (gone e);
            acked_is = λ e. absurd (gone e);
            ran_is = λ e. absurd (gone e);
          };
    }

pub collect_rounds : (seen : ℕ → Seen) (work : ℕ → Option Task) (s t : StateValue) (number : ℕ) (answer : ℤ) → Rounds seen work s →
    collect_by number answer s ≡ Ok t
    → Rounds seen work t
unfolding collect_by collected
collect_rounds seen work s t number answer r e =
    let stop = stop_at s number in
    let made = collected_with (unfinished stop) answer stop in
    let p = passed (nat_lt number 64 && stop.is_open) (on_stop number s made) (reason.StopNotOpen number) t e in
    let low = ltb-true number 64 (and_parts (nat_lt number 64) stop.is_open p.0).0 in
    let m = both_made made (λ x. Ok (with_stop number s x)) t p.1 in
    let c = collected_is (unfinished stop) stop m.0 answer m.1.0 in
    let to = record stop { is_open = false } in
    rounds_end seen work (with_stop number s to) t (ap (λ x. with_stop number s x) c.1 ∙ cc)
    (stop_only seen work work s number to r (closed_change seen work s number r low c.0) (λ other ne. refl))

pub opened_is : (u : Setting) (task : Task) (to : Stop) → opened u task ≡ Ok to → opening task ≡ to
unfolding opened
opened_is u task to e = search (passed, arith)

first_low : (kind : Kind) → DISABLE_IRQ ≤ first_phase kind → ⊥
first_low kind h = search arith

opened_change : (seen : ℕ → Seen) (work : ℕ → Option Task) (s : StateValue) (number : ℕ) (task : Task) → Rounds seen work s → number < 64 →
    (stop_at s number).is_open ≡ false
    → StopChange seen (Some task) s number (opening task)
opened_change seen work s number task r low shut =
    let stop = stop_at s number in
    record {
      stop_is = search (length-replicate, arith);
      each = λ cpu below.
          let new = opening task in
          let entered : slice_index_or new.entered cpu false ≡ false = get_or-replicate 32 cpu false false below in
          let acked : acked_by new cpu ≡ 0 = get_or-replicate 32 cpu 0 0 below in
          let ran : has_run new cpu ≡ false = get_or-replicate 32 cpu false false below in
          let answer : answer_of new cpu ≡ None = get_or-replicate 32 cpu None None below in
          let gone = λ (e : (cpu_at s cpu).inside ≡ Some number). let i = (r.at number low cpu below).in_stop e in ne_truth stop.is_open i.is_open shut in
          record {
            in_stop = λ e. absurd (gone e);
            is_in = λ o e n. absurd (ne_truth (slice_index_or new.entered cpu false) e entered);
            out = λ e. record { acked = acked; ran = ran; unanswered = answer };
            up_to = λ k three. omega arith;
            all = λ k m two. absurd (first_low task.kind two);
            last = λ e m. absurd cc;
            nobody = λ e. refl;
            answered = λ k four. answer;
            disabled = λ e k two four. absurd (gone e);
            acked_is = λ e. absurd (gone e);
            ran_is = λ e. absurd (gone e);
          };
    }

abbrev pub put_work : ℕ → Task → (ℕ → Option Task) → ℕ → Option Task
put_work number task work other = if number == other then Some task else work other

work_here : (number : ℕ) (task : Task) (work : ℕ → Option Task) → put_work number task work number ≡ Some task
work_here number task work = let t : (number == number) ≡ true = eq-eqb number number refl in rw t refl

work_elsewhere : (number : ℕ) (task : Task) (work : ℕ → Option Task) (other : ℕ) → other ≢ number → put_work number task work other ≡ work other
work_elsewhere number task work other ne = let t : (number == other) ≡ false = ne_eqb number other (λ e. ne (sym e)) in rw t refl

pub open_rounds : (seen : ℕ → Seen) (work : ℕ → Option Task) (s t : StateValue) (cpu number : ℕ) (task : Task) → Rounds seen work s
    → open_by cpu number task s ≡ Ok t → Rounds seen (put_work number task work) t
unfolding open_by
open_rounds seen work s t cpu number task r e =
    let o = passed (nat_lt number 64) (open_closed cpu number task s) reason.NoSuchWork t e in
    let low = ltb-true number 64 o.0 in
    let next = on_stop number s (opened s.setting task) in
    let p = failed (stop_at s number).is_open (may_open s.setting.without.gate cpu s >>= λ u. next) (reason.StopOpen number) t o.1 in
    let n = both_made (opened s.setting task) (λ x. Ok (with_stop number s x)) t (both_made (may_open s.setting.without.gate cpu s) (λ u. next) t p.1).1.1 in
    let w : put_work number task work number ≡ Some task = work_here number task work in
    rounds_end seen (put_work number task work) (with_stop number s (opening task)) t (ap (λ x. with_stop number s x) (opened_is s.setting task n.0 n.1.0) ∙ cc)
    (stop_only seen work (put_work number task work) s number (opening task) r (rw w (opened_change seen work s number task r low p.0))
    (work_elsewhere number task work))
