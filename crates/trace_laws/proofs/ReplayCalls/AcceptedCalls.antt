-- The events of calls of a replay are accepted.
use Rattle.trace_laws.proofs.Names.{AllByRecursion, CpuState, Err, Event, Free, LabelWords, Labels, List, None, Option, Runs, Setting, Some, StateValue}
use Rattle.trace_laws.proofs.Names.{[], ap, arith, cases_eq, cpu_at, eqb-false, false, filter-append, get_or-replicate, inl, inr, length}
use Rattle.trace_laws.proofs.Names.{length-replicate, length-set, opening, places_free, refl, replicate, slice_index_or, slice_set, subst, sym, true}
use Rattle.trace_laws.proofs.Names.{true≢false, ℕ, ◌++◌, ◌+◌, ◌<◌, ◌∙◌, ◌∷◌, ◌≡◌}
use Rattle.trace_laws.proofs.ReplayNames.{AimsOnline, CallState, Command, ControlValue, CoreValue, Done, DrainValue, FitsCommand, Follows, GoesElsewhere}
use Rattle.trace_laws.proofs.ReplayNames.{Handle, IsWhole, KeepsPast, Past, Post, PostIs, Posted, Replay}
use Rattle.trace_laws.proofs.ReplayNames.{Seen, Send}
use Rattle.trace_laws.proofs.ReplayNames.{Shown, SmpError, Stage, StopStage, Turned, access_of, after, after_seen, all_fresh, call_events, call_step, calls_in}
use Rattle.trace_laws.proofs.ReplayNames.{control_after, control_at, control_of, controls_by_cpu, cpus, events_of, events_of_step, first_stage, found_at}
use Rattle.trace_laws.proofs.ReplayNames.{fresh, get_or-same, inside_below, kept, made_shown, new_core, new_shown}
use Rattle.trace_laws.proofs.ReplayNames.{no_calls, nothing_left_out, number_in, outcome_of, outside, past_at, put, put_all, refusal_of}
use Rattle.trace_laws.proofs.ReplayNames.{replay_from, replay_made, replay_on, seen_at, start_below, start_turn, start_whole, started, started_shown, step_at}
use Rattle.trace_laws.proofs.ReplayNames.{step_turn, step_whole, stepped, stop_control_of, stop_seen_at, stop_step, stops_stepped, table_size, tells, tells_all}
use Rattle.trace_laws.proofs.ReplayNames.{word_of}
use Rattle.trace_laws.proofs.ReplayNames.{may_start}
use Rattle.smp_call_steps.specs.Start.{command_refusal}
use Rattle.smp_mask.specs.declared.error.SmpError.TheVariants as error
use Rattle.smp_words.specs.declared.command.Event.TheVariants as turned
use Rattle.trace_laws.proofs.ReplayCalls.EventsByHalf.{all_calls, call_word, is_call_word, no_calls as none_of_calls, stop_tells, stop_word}
use Rattle.trace_laws.proofs.ReplayCalls.KeptPasts.{begun_same, keeps_past, past_else, past_here}
use Rattle.trace_laws.proofs.ReplayCalls.PostSteps.{Accepted, looks_step, posts_step, sends_step}
use Rattle.trace_laws.proofs.{Calls.ShownByTraces.cpus_at_first, Calls.ShownByTraces.fresh_at, ReplayCalls.HandleSteps.handles_step}
use Rattle.trace_laws.proofs.{ReplayCalls.OtherHalf.KeepsCalls, ReplayCalls.OtherHalf.stop_keeps, ReplayCalls.StepEvents.Reaches}
use Rattle.trace_laws.specs.{AcceptedReplays.CallsOfReplaysAreAccepted, AcceptedReplays.Fits}

-- A core and a state of the model that agrees with its calls, between two steps.
pub record Stands (core : CoreValue) (a : CallState) (pasts : List Past) (s : StateValue) : Type 0 where
  pub whole : IsWhole core
  pub shown : Shown a core
  pub follows : Follows core.online a s
  pub keeps : KeepsPast a (control_of core.controls) pasts
  pub irq : (cpu : ℕ) → cpu < cpus → (cpu_at s cpu).irq ≡ true
  pub elsewhere : (cpu : ℕ) → GoesElsewhere (control_of core.controls cpu).stage cpu

-- one run after another
pub runs_append : (s m t : StateValue) (xs ys : List (ℕ × Event)) → Runs s xs m → Runs m ys t → Runs s (xs ++ ys) t
runs_append s m t [] ys x y = subst (λ (z : StateValue). Runs z ys t) x y
runs_append s m t (e ∷ xs) ys x y = (x.0, (x.1.0, runs_append x.0 m t xs ys x.1.1 y))

pub step_elsewhere : (d : DrainValue) (me : ℕ) (stage : Stage) (found : ℕ) → GoesElsewhere (Some stage) me → GoesElsewhere (outcome_of d stage found).next me
step_elsewhere d me stage found h1 = search arith

pub start_elsewhere : (nr online cpu : ℕ) (c : Command) → command_refusal nr online cpu c ≡ None → GoesElsewhere (first_stage online cpu c) cpu
start_elsewhere nr online cpu c h1 = search (true≢false, eqb-false, arith)

pub start_posts : (online cpu : ℕ) (c : Command) (p : Posted) → PostIs (first_stage online cpu c) p
start_posts online cpu c p = search arith

module _ (core : CoreValue) (a : CallState) (pasts : List Past) (s : StateValue) (k : Stands core a pasts s) (cpu : ℕ) where
  sized : length core.controls ≡ cpus
  sized = k.whole.sound.table.controls_sized

  -- the step of a CPU that is inside a command of the call half
  module _ (stage : Stage) (e : (control_of core.controls cpu).stage ≡ Some stage) where
    below : cpu < cpus
    below = inside_below core.controls cpu stage sized e

    aims : AimsOnline core.online (Some stage)
    aims = subst (λ (x : Option Stage). AimsOnline core.online x) e (k.whole.sound.apart.aims cpu)

    away : GoesElsewhere (Some stage) cpu
    away = subst (λ (x : Option Stage). GoesElsewhere x cpu) e (k.elsewhere cpu)

    posted : PostIs (Some stage) (past_at pasts cpu).post
    posted = subst (λ (x : Option Stage). PostIs x (past_at pasts cpu).post) e (k.keeps.posts cpu below)

    abbrev Goes : Stage → Type 0
    Goes x = Accepted core.online a (number_in core.words) (control_of core.controls) k.shown cpu below pasts s k.follows x

    step_accepted : (x : Stage) → (control_of core.controls cpu).stage ≡ Some x → AimsOnline core.online (Some x) → GoesElsewhere (Some x) cpu
        → PostIs (Some x) (past_at pasts cpu).post → Goes x
    step_accepted (Send to) f on ne p = sends_step core.online a (number_in core.words) (control_of core.controls) k.shown cpu below pasts s k.follows to f on
    step_accepted (Done id) f on ne p = looks_step core.online a (number_in core.words) (control_of core.controls) k.shown cpu below pasts s k.follows id f
    step_accepted (Post q x) f on ne p = posts_step core.online a (number_in core.words)
        (control_of core.controls) k.shown cpu below pasts s k.follows q x f on ne p
    step_accepted (Handle x) f on ne p =
        handles_step core.online a (number_in core.words) (control_of core.controls) k.shown cpu below pasts s k.follows (k.irq cpu below)
        (k.keeps.begun cpu below) x f

    pub reached : Reaches core.online (tells a (seen_at core cpu stage)) s (events_of_step pasts (seen_at core cpu stage))
    reached = step_accepted stage e aims away posted

    abbrev found : ℕ
    found = found_at core cpu stage

    abbrev next : ControlValue
    next = control_after (control_of core.controls cpu) stage found

    by_name : control_of (slice_set core.controls cpu next) ≡ put (control_of core.controls) cpu next
    by_name = controls_by_cpu core.controls cpu next sized below

    pub call_stands : Stands (stepped core cpu stage) (tells a (seen_at core cpu stage)) (kept pasts (seen_at core cpu stage)) reached.t
    call_stands =
        let access = access_of (number_in core.words) cpu stage in
        record {
          whole = step_whole core cpu k.whole (call_step core cpu stage) (rw e refl);
          shown = made_shown a core.words core.controls cpu stage access (found_at core cpu stage) (seen_at core cpu stage) _ _
              record { at_stage = e; is_access = refl; is_found = refl; is_words = refl; is_control = refl; is_seen = refl }
              k.whole.sound.table.words_sized sized k.shown;
          follows = reached.follows;
          keeps = subst (λ (f : ℕ → ControlValue). KeepsPast (tells a (seen_at core cpu stage)) f (kept pasts (seen_at core cpu stage))) (sym by_name)
              (keeps_past a (number_in core.words) (control_of core.controls) k.shown cpu pasts below k.keeps stage e);
          irq = λ c l. reached.leaves.irq c ∙ k.irq c l;
          elsewhere = subst (λ (f : ℕ → ControlValue). (j : ℕ) → GoesElsewhere (f j).stage j) (sym by_name)
              (put_all (λ j x. GoesElsewhere x.stage j) (control_of core.controls) cpu next
              (step_elsewhere (control_of core.controls cpu).drain cpu stage found away) (λ j ne. k.elsewhere j));
        }

    pub call_runs : Runs s (call_events (events_of_step pasts (seen_at core cpu stage))) reached.t
    call_runs = rw (all_calls cpu (past_at pasts cpu) (word_of (access_of (number_in core.words) cpu stage)) (seen_at core cpu stage)
        (call_word (number_in core.words) cpu stage)) reached.runs

  -- the step of a CPU that is inside a command of the stop half
  module _ (stage : StopStage) (whole : IsWhole (stops_stepped core cpu stage)) where
    abbrev pub seen : Seen
    seen = stop_seen_at core.stops cpu stage

    is_stop : is_call_word seen.word ≡ false
    is_stop = stop_word cpus cpu (stop_control_of core.stops.controls cpu).changes stage

    same : tells a seen ≡ a
    same = stop_tells a cpu seen.act seen.word seen.found seen.put is_stop

    -- what each CPU has kept of the calls is the same
    kept_here : (c : ℕ) → c < cpus → KeepsCalls (past_at pasts c) (past_at (kept pasts seen) c)
    kept_here c l = elim (cases_eq c cpu) [
      | inl e ↦ rw (e, past_here pasts cpu (after (past_at pasts cpu) seen) k.keeps.pasts_are (subst (λ (n : ℕ). n < cpus) e l)) (stop_keeps
          (past_at pasts cpu) seen is_stop)
      | inr ne ↦ rw (past_else pasts cpu (after (past_at pasts cpu) seen) c ne) (record { begun = refl; post = refl })
    ]

    pub stop_stands : Stands (stops_stepped core cpu stage) (tells a seen) (kept pasts seen) s
    stop_stands = rw same (record {
      whole = whole;
      shown = k.shown;
      follows = k.follows;
      keeps = record {
        pasts_are = length-set pasts cpu (after (past_at pasts cpu) seen) ∙ k.keeps.pasts_are;
        begun = λ c l. begun_same (a.running c) (past_at pasts c) (past_at (kept pasts seen) c) (kept_here c l).begun (k.keeps.begun c l);
        posts = λ c l. rw (kept_here c l).post (k.keeps.posts c l);
      };
      irq = k.irq;
      elsewhere = k.elsewhere;
    })

    pub stop_runs : Runs s (call_events (events_of_step pasts seen)) s
    stop_runs = rw (none_of_calls cpu (past_at pasts cpu) seen.word seen is_stop) refl

  -- a command begins
  pub start_stands : (c : Command) → FitsCommand c → refusal_of core cpu c ≡ None → Stands (started core cpu c) a pasts s
  start_stands c fits e =
      let first = control_at (control_of core.controls cpu) (first_stage core.online cpu c) in
      let by_name : control_of (slice_set core.controls cpu first) ≡ put
      (control_of core.controls) cpu first = controls_by_cpu core.controls cpu first sized (start_below core cpu c k.whole.sound.limits e) in
      record {
        whole = start_whole core cpu k.whole c fits e;
        shown = started_shown a core cpu c k.whole.sound.limits sized e fits k.shown;
        follows = k.follows;
        keeps = record {
          pasts_are = k.keeps.pasts_are;
          begun = k.keeps.begun;
          posts = subst (λ (f : ℕ → ControlValue). (j : ℕ) → j < cpus → PostIs (f j).stage (past_at pasts j).post) (sym by_name)
              (put_all (λ j x. j < cpus → PostIs x.stage (past_at pasts j).post) (control_of core.controls) cpu first
              (λ l. start_posts core.online cpu c (past_at pasts cpu).post) (λ j ne l. k.keeps.posts j l));
        };
        irq = k.irq;
        elsewhere = subst (λ (f : ℕ → ControlValue). (j : ℕ) → GoesElsewhere (f j).stage j) (sym by_name)
            (put_all (λ j x. GoesElsewhere x.stage j) (control_of core.controls) cpu first
            (start_elsewhere core.nr core.online cpu c (may_start core cpu c e).is_allowed) (λ j ne. k.elsewhere j));
      }

-- What the rest of a replay leaves.
pub record Replayed (a : CallState) (pasts : List Past) (s : StateValue) (r : Replay) : Type 0 where
  pub t : StateValue
  pub kept_then : List Past
  pub run : Runs s (call_events (events_of pasts r.seen)) t
  pub stands : Stands r.core (tells_all a r.seen) kept_then t

-- with one step more before
seen_first : (a : CallState) (pasts : List Past) (s m : StateValue) (x : Seen) (r : Replay) → Runs s (call_events (events_of_step pasts x)) m
    → Replayed (tells a x) (kept pasts x) m r → Replayed a pasts s (after_seen (x ∷ []) r)
seen_first a pasts s m x r h1 h2 = search (filter-append, runs_append, arith)

-- a refusal ends it
refused : (core : CoreValue) (a : CallState) (pasts : List Past) (s : StateValue) (position : ℕ) (why : SmpError) (rest : Replay) → Stands core a pasts s
    → Replayed a pasts s (replay_on position core (Err why) rest)
refused core a pasts s position why rest k = record { t = s; kept_then = pasts; run = refl; stands = k }

-- what follows of the rest, from any core
abbrev Rest : ℕ → List Turned → Type 0
Rest position rest = (core : CoreValue) (a : CallState) (pasts : List Past) (s : StateValue) → Stands core a pasts s
    → Replayed a pasts s (replay_from position core rest)

-- after a command, by whether it may begin
started_then : (position : ℕ) (rest : List Turned) → Rest (position + 1) rest → (core : CoreValue) (a : CallState) (pasts : List Past) (s : StateValue)
    → Stands core a pasts s
    → (cpu : ℕ) (c : Command) → FitsCommand c → (r : Option SmpError) → refusal_of core cpu c ≡ r
    → let turn = start_turn core (started core cpu c) r in Replayed a pasts s (replay_on position turn.core turn.answer (replay_from
    (position + 1) turn.core rest))
started_then position rest on core a pasts s k cpu c fits (Some why) e = refused core a pasts s position why (replay_from (position + 1) core rest) k
started_then position rest on core a pasts s k cpu c fits None e =
    let next = on (started core cpu c) a pasts s (start_stands core a pasts s k cpu c fits e) in
    record { t = next.t; kept_then = next.kept_then; run = next.run; stands = next.stands }

-- after a step, by where the CPU is
stepped_then : (position : ℕ) (rest : List Turned) → Rest (position + 1) rest → (core : CoreValue) (a : CallState) (pasts : List Past) (s : StateValue)
    → Stands core a pasts s
    → (cpu : ℕ) (x : Option Stage) (y : Option StopStage) → (control_of core.controls cpu).stage ≡ x → (stop_control_of core.stops.controls cpu).stage ≡ y
    → let turn = step_turn core (step_at core cpu x y) in Replayed a pasts s (replay_on position turn.core turn.answer (replay_from
    (position + 1) turn.core rest))
stepped_then position rest on core a pasts s k cpu None None e f = refused core a pasts s position error.IdleStep (replay_from (position + 1) core rest) k
stepped_then position rest on core a pasts s k cpu (Some stage) y e f =
    let seen = seen_at core cpu stage in
    let m = (reached core a pasts s k cpu stage e).t in
    seen_first a pasts s m seen (replay_from (position + 1) (stepped core cpu stage) rest) (call_runs core a pasts s k cpu stage e)
    (on (stepped core cpu stage) (tells a seen) (kept pasts seen) m (call_stands core a pasts s k cpu stage e))
stepped_then position rest on core a pasts s k cpu None (Some stage) e f =
    let seen = stop_seen_at core.stops cpu stage in
    let whole : IsWhole (stops_stepped core cpu stage) = step_whole core cpu k.whole (stop_step core cpu stage) (rw (e, f) refl) in
    seen_first a pasts s s seen (replay_from (position + 1) (stops_stepped core cpu stage) rest) (stop_runs core a pasts s k cpu stage whole)
    (on (stops_stepped core cpu stage) (tells a seen) (kept pasts seen) s (stop_stands core a pasts s k cpu stage whole))

pub replayed : (position : ℕ) (commands : List Turned) (core : CoreValue) (a : CallState) (pasts : List Past) (s : StateValue) → Stands core a pasts s
    → AllByRecursion Fits commands → Replayed a pasts s (replay_from position core commands)
replayed position [] core a pasts s k all = record { t = s; kept_then = pasts; run = refl; stands = k }
replayed position (turned.Start cpu c ∷ rest) core a pasts s k all =
    started_then position rest (λ core' a' pasts' s' k'. replayed (position + 1) rest core' a' pasts' s' k' all.1) core a pasts s k cpu c all.0
    (refusal_of core cpu c) refl
replayed position (turned.Step cpu ∷ rest) core a pasts s k all =
    stepped_then position rest (λ core' a' pasts' s' k'. replayed (position + 1) rest core' a' pasts' s' k' all.1) core a pasts s k cpu
    (control_of core.controls cpu).stage (stop_control_of core.stops.controls cpu).stage refl refl

-- before the first step

free_at : (n id : ℕ) → id < n → slice_index_or (places_free n) id Free ≡ Free
unfolding places_free
free_at n id l = get_or-replicate n id Free Free l

length-free : (n : ℕ) → length (places_free n) ≡ n
unfolding places_free
length-free n = length-replicate n Free

opening_follows : (u : Setting) (words : LabelWords) (online : ℕ) → u.online ≡ online → u.without ≡ nothing_left_out
    → Follows online no_calls (opening u words)
unfolding opening
opening_follows u words online e w = record {
  whole = w;
  online_is = e;
  cpus_are = cpus_at_first u words;
  places_are = length-free 65536;
  calls = λ cpu. ap calls_in (fresh_at u words cpu);
  places = λ id l. free_at 65536 id (omega arith);
}

pub new_stands : (nr online : ℕ) (labels : Labels) (u : Setting) (words : LabelWords) → IsWhole (new_core nr online labels) → u.online ≡ online
    → u.without ≡ nothing_left_out
    → Stands (new_core nr online labels) no_calls all_fresh (opening u words)
new_stands nr online labels u words whole e w = record {
  whole = whole;
  shown = new_shown (replicate table_size 0) (replicate cpus outside) refl refl;
  follows = opening_follows u words online e w;
  keeps = record {
    pasts_are = length-replicate 32 fresh;
    begun = λ cpu l. tt;
    posts = λ cpu l. rw (get_or-same outside cpus cpu) tt;
  };
  irq = λ cpu l. ap (λ (c : CpuState). c.irq) (fresh_at u words cpu);
  elsewhere = λ cpu. rw (get_or-same outside cpus cpu) tt;
}

pub calls_of_replays_are_accepted : CallsOfReplaysAreAccepted
calls_of_replays_are_accepted nr online labels commands core steps stopped u words whole fits is_replay is_of =
    let first = new_core nr online labels in
    let made : Replay = replay_made core steps stopped in
    let one = replayed 0 commands first no_calls all_fresh (opening u words) (new_stands nr online labels u words whole is_of.online is_of.whole) fits in
    let done : Replayed no_calls all_fresh (opening u words) made = subst (λ (r : Replay). Replayed no_calls all_fresh (opening u words) r)
    (sym is_replay) one in
    record { end = done.t; run = done.run; shown = done.stands.shown; follows = done.stands.follows }
