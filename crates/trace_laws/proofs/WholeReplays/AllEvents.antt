-- All events of a replay are accepted.
use Rattle.trace_laws.proofs.Names.{List, None, Ok, Option, Some, StateValue, [], ap, arith, cases_eq, cpu_at, false, handles_nothing, has, inl}
use Rattle.trace_laws.proofs.Names.{inr, length, length-set, map, refl, slice_set, subst, sym, true, ℕ, ◌<◌, ◌∙◌, ◌≡◌}
use Rattle.trace_laws.proofs.ReplayNames.{AimsOnline, BeginsOfCpus, CallState, CallsOfCpu, Command, ControlValue, CoreValue, CpuIs, Done, Drafts}
use Rattle.trace_laws.proofs.ReplayNames.{FitsCommand, Follows, FollowsStops, GoesElsewhere, Handle, HandlesWithOn, IsWhole, KeepsPast}
use Rattle.trace_laws.proofs.ReplayNames.{Past, Post, PostIs, Seen, Send, Shown, Stage, StandsAt, StopControlValue, StopShown, StopStage}
use Rattle.trace_laws.proofs.ReplayNames.{StopState, Word, access_of, after, answer_at, at_after, call_step, control_after, control_at, control_of}
use Rattle.trace_laws.proofs.ReplayNames.{controls_by_cpu, cpus, current_of, events_of_step, first_stage, found_at, inside_below, kept}
use Rattle.trace_laws.proofs.ReplayNames.{made_shown, may_start, number_in, past_at, put, put_all, put_other, put_same, refusal_of}
use Rattle.trace_laws.proofs.ReplayNames.{seen_at, setup_of, share_of, start_below, start_whole, started, started_shown, step_whole, stepped, stop_access}
use Rattle.trace_laws.proofs.ReplayNames.{stop_control_of, stop_controls_by_cpu, stop_first, stop_found_at, stop_number, stop_outcome, stop_seen_at}
use Rattle.trace_laws.proofs.ReplayNames.{stop_word_named, stops_stepped, tells, told_call}
use Rattle.smp_call_steps.proofs.Machine.Starts.{online_below}
use Rattle.smp_call_steps.specs.Stands.{Rests}
use Rattle.smp_stop_steps.proofs.{TheMachine.Made.made_told, TheMachine.Tables.stop_words_by_name, TheMachine.Values.stop_inside_below}
use Rattle.smp_stop_steps.specs.{Machine.stop_stepped, Tells.tells as tells_stops}
use Rattle.smp_core.proofs.OfflineStops.{started_told}
use Rattle.trace_laws.proofs.ReplayCalls.EventsByHalf.{call_word, is_call_word, stop_tells, stop_word}
use Rattle.trace_laws.proofs.ReplayCalls.KeptPasts.{begun_same, keeps_past, past_else, past_here}
use Rattle.trace_laws.proofs.ReplayCalls.OtherHalf.{KeepsCalls, KeepsStops, call_keeps, stop_keeps}
use Rattle.trace_laws.proofs.ReplayCalls.PostSteps.{Accepted, looks_step, posts_step, sends_step}
use Rattle.trace_laws.proofs.ReplayStops.BegunStops.{begun_drafts, begun_else, begun_here, begun_labels, begun_table}
use Rattle.trace_laws.proofs.ReplayStops.BegunStops.{first_drafts, stage_drafts}
use Rattle.trace_laws.proofs.{ReplayCalls.AcceptedCalls.start_elsewhere, ReplayCalls.AcceptedCalls.start_posts, ReplayCalls.AcceptedCalls.step_elsewhere}
use Rattle.trace_laws.proofs.{ReplayCalls.ChangedStates.LeavesStops, ReplayCalls.HandleSteps.handles_step, ReplayCalls.StepEvents.Reaches}
use Rattle.trace_laws.proofs.{ReplayPatches.PatchEvents.AreEntries, ReplayStops.AllSteps.stop_accepted, ReplayStops.ChangedStates.LeavesCalls}
use Rattle.trace_laws.proofs.{ReplayStops.StepEvents.ReachesStops}
use Rattle.trace_laws.proofs.ReplayStops.Here.{Here}

-- A core and a state of the model that agrees with its calls and its stops, between two steps.
pub record StandsAll (core : CoreValue) (a : CallState) (p : StopState) (pasts : List Past) (s : StateValue) : Type 0 where
  pub whole : IsWhole core
  pub calls : Shown a core
  pub stops : StopShown p core.stops
  pub follows : Follows core.online a s
  pub keeps : KeepsPast a (control_of core.controls) pasts
  pub follows_stops : FollowsStops p (stop_number core.stops.table) pasts s
  -- the keys and the entries are those of the labels
  pub count : s.setting.keys ≡ core.stops.labels.keys
  pub entries : AreEntries (setup_of core.stops.online core.stops.labels) s.words
  pub elsewhere : (cpu : ℕ) → GoesElsewhere (control_of core.controls cpu).stage cpu
  pub drafts : (cpu : ℕ) → cpu < cpus → Drafts (stop_control_of core.stops.controls cpu).stage (past_at pasts cpu).draft

-- a step of the call half leaves the stops as they were
stop_moved : (p : StopState) (s t : StateValue) (past new : Past) (cpu : ℕ) → LeavesStops s t → KeepsStops past new → CpuIs p s past cpu → CpuIs p t new cpu
stop_moved p s t past new cpu k n c = record {
  inside = k.inside cpu ∙ c.inside;
  irq = k.irq cpu ∙ c.irq;
  stop = λ j e. let i = c.stop j e in record {
    below = i.below;
    ran = rw k.stops i.ran;
    patch = rw (k.stops, k.words) i.patch;
    phase = rw n.phase i.phase;
    answer = rw n.answer i.answer;
  };
  answer = λ e. n.answer ∙ c.answer e;
  reads = λ e. c.reads (sym n.phase ∙ e);
}

stops_moved : (p : StopState) (at : Word → ℕ) (pasts new : List Past) (s t : StateValue) → LeavesStops s t
    → ((cpu : ℕ) → KeepsStops (past_at pasts cpu) (past_at new cpu)) → FollowsStops p at pasts s → FollowsStops p at new t
stops_moved p at pasts new s t k n f = record {
  stops_are = rw k.stops f.stops_are;
  keys_are = rw k.words f.keys_are;
  sites_are = rw k.words f.sites_are;
  gate = k.gate ∙ f.gate;
  stops = λ j l. rw k.stops (f.stops j l);
  no_more = λ j l. rw k.stops (f.no_more j l);
  cpus_are = λ cpu. stop_moved p s t (past_at pasts cpu) (past_at new cpu) cpu k (n cpu) (f.cpus_are cpu);
  keys = λ j. rw k.words (f.keys j);
  sites = λ j. rw k.words (f.sites j);
}

-- a step of the stop half leaves the calls as they were
calls_left : (online : ℕ) (a : CallState) (s t : StateValue) → LeavesCalls s t → Follows online a s → Follows online a t
calls_left online a s t h1 h2 = search arith

module _ (core : CoreValue) (a : CallState) (p : StopState) (pasts : List Past) (s : StateValue) (k : StandsAll core a p pasts s) (cpu : ℕ) where
  sized : length core.controls ≡ cpus
  sized = k.whole.sound.table.controls_sized

  stops_sized : length core.stops.controls ≡ cpus
  stops_sized = k.whole.stops.sized

  irq_is : (c : ℕ) → c < cpus → (cpu_at s c).irq ≡ (stop_control_of core.stops.controls c).interrupts
  irq_is c l = (k.follows_stops.cpus_are c).irq ∙ (k.stops.shows.present.irq c ∙ sym (k.stops.sits c l).irq)

  -- the step of a CPU that is inside a command of the call half
  module _ (stage : Stage) (e : (control_of core.controls cpu).stage ≡ Some stage) where
    pub below : cpu < cpus
    below = inside_below core.controls cpu stage sized e

    aims : AimsOnline core.online (Some stage)
    aims = subst (λ (x : Option Stage). AimsOnline core.online x) e (k.whole.sound.apart.aims cpu)

    away : GoesElsewhere (Some stage) cpu
    away = subst (λ (x : Option Stage). GoesElsewhere x cpu) e (k.elsewhere cpu)

    posted : PostIs (Some stage) (past_at pasts cpu).post
    posted = subst (λ (x : Option Stage). PostIs x (past_at pasts cpu).post) e (k.keeps.posts cpu below)

    handled : HandlesWithOn (Some stage) (stop_control_of core.stops.controls cpu).interrupts
    handled = subst (λ (x : Option Stage). HandlesWithOn x (stop_control_of core.stops.controls cpu).interrupts) e (k.whole.sound.joined.handles cpu)

    abbrev Goes : Stage → Type 0
    Goes x = Accepted core.online a (number_in core.words) (control_of core.controls) k.calls cpu below pasts s k.follows x

    step_accepted : (x : Stage) → (control_of core.controls cpu).stage ≡ Some x → AimsOnline core.online (Some x) → GoesElsewhere (Some x) cpu
        → PostIs (Some x) (past_at pasts cpu).post → HandlesWithOn (Some x) (stop_control_of core.stops.controls cpu).interrupts → Goes x
    step_accepted (Send to) f on ne q h = sends_step core.online a (number_in core.words)
        (control_of core.controls) k.calls cpu below pasts s k.follows to f on
    step_accepted (Done id) f on ne q h = looks_step core.online a (number_in core.words) (control_of core.controls) k.calls cpu below pasts s k.follows id f
    step_accepted (Post r x) f on ne q h = posts_step core.online a (number_in core.words)
        (control_of core.controls) k.calls cpu below pasts s k.follows r x f on ne q
    step_accepted (Handle x) f on ne q h =
        handles_step core.online a (number_in core.words) (control_of core.controls) k.calls cpu below pasts s k.follows (irq_is cpu below
        ∙ h) (k.keeps.begun cpu below) x f

    pub reached : Reaches core.online (tells a (seen_at core cpu stage)) s (events_of_step pasts (seen_at core cpu stage))
    reached = step_accepted stage e aims away posted handled

    abbrev next : ControlValue
    next = control_after (control_of core.controls cpu) stage (found_at core cpu stage)

    by_name : control_of (slice_set core.controls cpu next) ≡ put (control_of core.controls) cpu next
    by_name = controls_by_cpu core.controls cpu next sized below

    kept_here : (c : ℕ) → KeepsStops (past_at pasts c) (past_at (kept pasts (seen_at core cpu stage)) c)
    kept_here c = elim (cases_eq c cpu) [
      | inl same ↦ rw (same, past_here pasts cpu (after (past_at pasts cpu) (seen_at core cpu stage)) k.keeps.pasts_are below)
          (call_keeps (past_at pasts cpu) (seen_at core cpu stage) (call_word (number_in core.words) cpu stage))
      | inr ne ↦ rw (past_else pasts cpu (after (past_at pasts cpu) (seen_at core cpu stage)) c ne) (record { phase = refl; answer = refl; draft = refl })
    ]

    pub call_stands : StandsAll (stepped core cpu stage) (tells a (seen_at core cpu stage)) p (kept pasts (seen_at core cpu stage)) reached.t
    call_stands =
        let access = access_of (number_in core.words) cpu stage in
        record {
          whole = step_whole core cpu k.whole (call_step core cpu stage) (rw e refl);
          calls = made_shown a core.words core.controls cpu stage access (found_at core cpu stage) (seen_at core cpu stage) _ _
              record { at_stage = e; is_access = refl; is_found = refl; is_words = refl; is_control = refl; is_seen = refl }
              k.whole.sound.table.words_sized sized k.calls;
          stops = k.stops;
          follows = reached.follows;
          keeps = subst (λ (f : ℕ → ControlValue). KeepsPast (tells a (seen_at core cpu stage)) f (kept pasts (seen_at core cpu stage))) (sym by_name)
              (keeps_past a (number_in core.words) (control_of core.controls) k.calls cpu pasts below k.keeps stage e);
          follows_stops = stops_moved p (stop_number core.stops.table) pasts (kept pasts
              (seen_at core cpu stage)) s reached.t reached.leaves kept_here k.follows_stops;
          count = rw reached.leaves.setting k.count;
          entries = rw reached.leaves.words k.entries;
          elsewhere = subst (λ (f : ℕ → ControlValue). (j : ℕ) → GoesElsewhere (f j).stage j) (sym by_name)
              (put_all (λ j x. GoesElsewhere x.stage j) (control_of core.controls) cpu next
              (step_elsewhere (control_of core.controls cpu).drain cpu stage (found_at core cpu stage) away) (λ j ne. k.elsewhere j));
          drafts = λ c l. rw (kept_here c).draft (k.drafts c l);
        }

  -- the step of a CPU that is inside a command of the stop half
  module _ (stage : StopStage) (e : (stop_control_of core.stops.controls cpu).stage ≡ Some stage) (out : (control_of core.controls cpu).stage ≡ None)
      (whole : IsWhole (stops_stepped core cpu stage)) where
    pub stop_below : cpu < cpus
    stop_below = let l = stop_inside_below core.stops.controls cpu stage e in let n = stops_sized in omega (arith, l, n)

    rests : Rests (share_of a cpu)
    rests = subst (λ (x : Option Stage). StandsAt a.place (number_in core.words) (share_of a cpu) (control_of core.controls cpu).drain cpu x) out
        (k.calls.stands cpu)

    pub quiet : handles_nothing (cpu_at s cpu) ≡ Ok tt
    quiet =
        let mine = k.follows.calls cpu in
        let current : (cpu_at s cpu).current ≡ None = ap (λ (c : CallsOfCpu). c.current) mine ∙ ap current_of rests.running in
        let batch : (cpu_at s cpu).batch ≡ [] = ap (λ (c : CallsOfCpu). c.batch) mine ∙ ap (map told_call) rests.batch in
        let accepted : (cpu_at s cpu).accepted ≡ false = ap (λ (c : CallsOfCpu). c.accepted) mine ∙ rests.accepted in
        rw (current, batch, accepted) refl

    -- what is known where it makes the step
    abbrev pub here : Here
    here = record {
      v = core.stops;
      p = p;
      shown = k.stops;
      me = cpu;
      below = stop_below;
      pasts = pasts;
      sized = k.keeps.pasts_are;
      s = s;
      whole = k.follows.whole;
      cpus_are = k.follows.cpus_are;
      f = k.follows_stops;
      quiet = quiet;
    }

    abbrev pub seen : Seen
    seen = stop_seen_at core.stops cpu stage

    abbrev pub told_stops : StopState
    told_stops = tells_stops (setup_of core.stops.online core.stops.labels) p (stop_seen_at core.stops cpu stage) (answer_at stage)

    pub reached_stops : ReachesStops told_stops (at_after (stop_number core.stops.table) (stop_access cpus cpu
        (stop_control_of core.stops.controls cpu).changes stage))
        (kept pasts (stop_seen_at core.stops cpu stage)) s (events_of_step pasts (stop_seen_at core.stops cpu stage))
    reached_stops = stop_accepted here
        k.whole.stops.results (k.follows.online_is ∙ sym k.whole.sound.stops_online) k.count k.entries stage e
        (subst (λ (x : Option StopStage). Drafts x (past_at pasts cpu).draft) e (k.drafts cpu stop_below))

    is_stop : is_call_word (stop_seen_at core.stops cpu stage).word ≡ false
    is_stop = stop_word cpus cpu (stop_control_of core.stops.controls cpu).changes stage

    same : tells a (stop_seen_at core.stops cpu stage) ≡ a
    same = stop_tells a cpu (stop_seen_at core.stops cpu stage).act (stop_seen_at core.stops cpu stage).word (stop_seen_at core.stops cpu stage).found
        (stop_seen_at core.stops cpu stage).put is_stop

    calls_kept : (c : ℕ) → c < cpus → KeepsCalls (past_at pasts c) (past_at (kept pasts (stop_seen_at core.stops cpu stage)) c)
    calls_kept c l = elim (cases_eq c cpu) [
      | inl is ↦ rw (is, past_here pasts cpu (after (past_at pasts cpu) (stop_seen_at core.stops cpu stage)) k.keeps.pasts_are stop_below)
          (stop_keeps (past_at pasts cpu) (stop_seen_at core.stops cpu stage) is_stop)
      | inr ne ↦ rw (past_else pasts cpu (after (past_at pasts cpu) (stop_seen_at core.stops cpu stage)) c ne) (record { begun = refl; post = refl })
    ]

    abbrev Next : StopControlValue
    Next = (stop_outcome cpu (stop_control_of core.stops.controls cpu) stage (stop_found_at core.stops cpu stage)).control

    pub by_name_stops : (c : ℕ) → stop_control_of (slice_set core.stops.controls cpu Next) c ≡ put (stop_control_of core.stops.controls) cpu Next c
    by_name_stops c = stop_controls_by_cpu core.stops.controls cpu c Next (stop_inside_below core.stops.controls cpu stage e)

    pub named : stop_number (stop_stepped core.stops cpu stage).table
        ≡ at_after (stop_number core.stops.table) (stop_access cpus cpu (stop_control_of core.stops.controls cpu).changes stage)
    named = stop_words_by_name core.stops.table k.whole.stops.table_is (stop_access cpus cpu (stop_control_of core.stops.controls cpu).changes stage)
        (stop_word_named (setup_of core.stops.online core.stops.labels) refl p core.stops.table core.stops.controls k.stops stops_sized
        k.whole.stops.table_is cpu stage e)

    drafts_next : Drafts (stop_outcome cpu (stop_control_of core.stops.controls cpu) stage (stop_found_at core.stops cpu stage)).control.stage
        (after (past_at pasts cpu) (stop_seen_at core.stops cpu stage)).draft
    drafts_next = stage_drafts cpu (stop_control_of core.stops.controls cpu) (past_at pasts cpu) stage (stop_found_at core.stops cpu stage)
        (subst (λ (x : Option StopStage). Drafts x (past_at pasts cpu).draft) e (k.drafts cpu stop_below))

    pub stop_stands : StandsAll (stops_stepped core cpu stage) (tells a (stop_seen_at core.stops cpu stage)) told_stops (kept pasts
        (stop_seen_at core.stops cpu stage)) reached_stops.t
    stop_stands = rw same (record {
      whole = whole;
      calls = k.calls;
      stops = made_told core.stops k.whole.stops cpu stage (stop_seen_at core.stops cpu stage) _ _
          record { at_stage = e; is_table = refl; is_controls = refl; is_seen = refl } p k.stops;
      follows = calls_left core.online a s reached_stops.t reached_stops.leaves k.follows;
      keeps = record {
        pasts_are = length-set pasts cpu (after (past_at pasts cpu) (stop_seen_at core.stops cpu stage)) ∙ k.keeps.pasts_are;
        begun = λ c l. begun_same (a.running c) (past_at pasts c) (past_at (kept pasts (stop_seen_at core.stops cpu stage)) c) (calls_kept c l).begun
            (k.keeps.begun c l);
        posts = λ c l. rw (calls_kept c l).post (k.keeps.posts c l);
      };
      follows_stops = subst (λ (at : Word → ℕ). FollowsStops told_stops at (kept pasts (stop_seen_at core.stops cpu stage)) reached_stops.t)
          (sym named) reached_stops.follows;
      count = rw reached_stops.leaves.setting k.count;
      entries = rw reached_stops.leaves.entries k.entries;
      elsewhere = k.elsewhere;
      drafts = λ c l. elim (cases_eq c cpu) [
        | inl is ↦ rw (
          is,
          by_name_stops cpu,
          put_same (stop_control_of core.stops.controls) cpu Next,
          past_here pasts cpu (after (past_at pasts cpu) (stop_seen_at core.stops cpu stage)) k.keeps.pasts_are stop_below,
        ) drafts_next
        | inr ne ↦ rw (
          by_name_stops c,
          put_other (stop_control_of core.stops.controls) cpu Next c ne,
          past_else pasts cpu (after (past_at pasts cpu) (stop_seen_at core.stops cpu stage)) c ne,
        ) (k.drafts c l)
      ];
    })

  -- a command begins
  pub start_stands : (c : Command) → FitsCommand c → BeginsOfCpus c → refusal_of core cpu c ≡ None → StandsAll (started core cpu c) a p pasts s
  start_stands c fits plain e =
      let m = may_start core cpu c e in
      let low = start_below core cpu c k.whole.sound.limits e in
      let online : has core.stops.online cpu ≡ true = rw k.whole.sound.stops_online m.is_online in
      let bounded : (n : ℕ) → has core.stops.online n ≡ true → n < cpus =
      λ n on. online_below core.nr core.online n k.whole.sound.limits (subst (λ o. has o n ≡ true) k.whole.sound.stops_online on) in
      let control = stop_control_of core.stops.controls cpu in
      let first = stop_first control c in
      let here = begun_here core.stops cpu first stops_sized low in
      let next = control_at (control_of core.controls cpu) (first_stage core.online cpu c) in
      let by_name : control_of (slice_set core.controls cpu next) ≡ put
      (control_of core.controls) cpu next = controls_by_cpu core.controls cpu next sized low in
      record {
        whole = start_whole core cpu k.whole c fits e;
        calls = started_shown a core cpu c k.whole.sound.limits sized e fits k.calls;
        stops = started_told core.stops k.whole.stops cpu low m.is_stop_outside bounded online c fits m.is_stop_allowed p k.stops;
        follows = k.follows;
        keeps = record {
          pasts_are = k.keeps.pasts_are;
          begun = k.keeps.begun;
          posts = subst (λ (f : ℕ → ControlValue). (j : ℕ) → j < cpus → PostIs (f j).stage (past_at pasts j).post) (sym by_name)
              (put_all (λ j x. j < cpus → PostIs x.stage (past_at pasts j).post) (control_of core.controls) cpu next
              (λ l. start_posts core.online cpu c (past_at pasts cpu).post) (λ j ne l. k.keeps.posts j l));
        };
        follows_stops = rw (begun_table core.stops cpu first) k.follows_stops;
        count = rw (begun_labels core.stops cpu first) k.count;
        entries = rw (begun_labels core.stops cpu first) k.entries;
        elsewhere = subst (λ (f : ℕ → ControlValue). (j : ℕ) → GoesElsewhere (f j).stage j) (sym by_name)
            (put_all (λ j x. GoesElsewhere x.stage j) (control_of core.controls) cpu next (start_elsewhere core.nr core.online cpu c m.is_allowed)
            (λ j ne. k.elsewhere j));
        drafts = λ n l. elim (cases_eq n cpu) [
          | inl is ↦ rw (is, here) (begun_drafts control first (past_at pasts cpu).draft m.is_stop_outside (first_drafts control c plain
              (past_at pasts cpu).draft))
          | inr ne ↦ rw (begun_else core.stops cpu first n stops_sized low ne) (k.drafts n l)
        ];
      }
