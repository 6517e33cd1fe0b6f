-- Each replay is accepted.
use Rattle.trace_laws.proofs.Names.{AllByRecursion, CpuState, Err, LabelWords, Labels, List, None, Option, Runs, Setting, Some, StateValue, [], ap, arith}
use Rattle.trace_laws.proofs.Names.{cases_lt, closed, false, false≢true, get_or-replicate, get_or_past, inl, inr, length-replicate, opening, refl, replicate}
use Rattle.trace_laws.proofs.Names.{slice_index_or, subst, sym, ℕ, ◌+◌, ◌∙◌, ◌∷◌, ◌≡◌}
use Rattle.trace_laws.proofs.ReplayNames.{AreWordsOf, BeginsOfCpus, CallState, Command, CoreValue, FitsCommand, FitsCpus, FollowsStops, IsWhole}
use Rattle.trace_laws.proofs.ReplayNames.{Past, Replay, Seen, SmpError, Stage, StopShown, StopStage, StopState, StopsValue, Turned, after_seen}
use Rattle.trace_laws.proofs.ReplayNames.{all_fresh, control_of, cpus, events_of, events_of_step, fresh, get_or-same, kept, new_core, new_stops, no_calls}
use Rattle.trace_laws.proofs.ReplayNames.{no_stops, refusal_of, replay_from, replay_made, replay_on, seen_at, setup_of, start_turn, started}
use Rattle.trace_laws.proofs.ReplayNames.{step_at, step_turn, step_whole, stepped, stop_control_of, stop_number, stop_outside, stop_seen_at, stop_step}
use Rattle.trace_laws.proofs.ReplayNames.{stops_stepped, tells, tells_all}
use Rattle.smp_mask.specs.declared.error.SmpError.TheVariants as error
use Rattle.smp_words.specs.declared.command.Event.TheVariants as turned
use Rattle.trace_laws.proofs.WholeReplays.AllEvents.{StandsAll, call_stands, reached, reached_stops, start_stands, stop_stands, told_stops}
use Rattle.trace_laws.proofs.{Calls.ShownByTraces.fresh_at, ReplayCalls.AcceptedCalls.new_stands, ReplayCalls.AcceptedCalls.runs_append}
use Rattle.trace_laws.proofs.{ReplayPatches.PatchEvents.AreEntries}
use Rattle.trace_laws.specs.{AcceptedReplays.IsOf, AcceptedReplays.ReplaysAreAccepted}
use Rattle.smp_words.specs.declared.phase.TheConstants.{RUN}

-- What the rest of a replay leaves.
pub record ReplayedAll (a : CallState) (pasts : List Past) (s : StateValue) (r : Replay) : Type 0 where
  pub t : StateValue
  pub stops : StopState
  pub kept_then : List Past
  pub run : Runs s (events_of pasts r.seen) t
  pub stands : StandsAll r.core (tells_all a r.seen) stops kept_then t

seen_first : (a : CallState) (pasts : List Past) (s m : StateValue) (x : Seen) (r : Replay) → Runs s (events_of_step pasts x) m
    → ReplayedAll (tells a x) (kept pasts x) m r → ReplayedAll a pasts s (after_seen (x ∷ []) r)
seen_first a pasts s m x r h1 h2 = search (runs_append, arith)

-- a refusal ends it
refused : (core : CoreValue) (a : CallState) (p : StopState) (pasts : List Past) (s : StateValue) (position : ℕ) (why : SmpError) (rest : Replay)
    → StandsAll core a p pasts s → ReplayedAll a pasts s (replay_on position core (Err why) rest)
refused core a p pasts s position why rest k = record { t = s; stops = p; kept_then = pasts; run = refl; stands = k }

abbrev Rest : ℕ → List Turned → Type 0
Rest position rest = (core : CoreValue) (a : CallState) (p : StopState) (pasts : List Past) (s : StateValue) → StandsAll core a p pasts s
    → ReplayedAll a pasts s (replay_from position core rest)

started_then : (position : ℕ) (rest : List Turned) → Rest (position + 1) rest → (core : CoreValue) (a : CallState) (p : StopState) (pasts : List Past)
    (s : StateValue)
    → StandsAll core a p pasts s → (cpu : ℕ) (c : Command) → FitsCommand c → BeginsOfCpus c → (r : Option SmpError) → refusal_of core cpu c ≡ r
    → let turn = start_turn core (started core cpu c) r in ReplayedAll a pasts s (replay_on position turn.core turn.answer (replay_from
    (position + 1) turn.core rest))
started_then position rest on core a p pasts s k cpu c fits plain (Some why) e = refused core a p pasts s position why (replay_from (position + 1) core rest) k
started_then position rest on core a p pasts s k cpu c fits plain None e =
    let next = on (started core cpu c) a p pasts s (start_stands core a p pasts s k cpu c fits plain e) in
    record { t = next.t; stops = next.stops; kept_then = next.kept_then; run = next.run; stands = next.stands }

stepped_then : (position : ℕ) (rest : List Turned) → Rest (position + 1) rest → (core : CoreValue) (a : CallState) (p : StopState) (pasts : List Past)
    (s : StateValue)
    → StandsAll core a p pasts s → (cpu : ℕ) (x : Option Stage) (y : Option StopStage) → (control_of core.controls cpu).stage ≡ x
    → (stop_control_of core.stops.controls cpu).stage ≡ y
    → let turn = step_turn core (step_at core cpu x y) in ReplayedAll a pasts s (replay_on position turn.core turn.answer (replay_from
    (position + 1) turn.core rest))
stepped_then position rest on core a p pasts s k cpu None None e f = refused core a p pasts s position error.IdleStep (replay_from (position + 1) core rest) k
stepped_then position rest on core a p pasts s k cpu (Some stage) y e f =
    let seen = seen_at core cpu stage in
    let m = reached core a p pasts s k cpu stage e in
    seen_first a pasts s m.t seen (replay_from (position + 1) (stepped core cpu stage) rest) m.runs
    (on (stepped core cpu stage) (tells a seen) p (kept pasts seen) m.t (call_stands core a p pasts s k cpu stage e))
stepped_then position rest on core a p pasts s k cpu None (Some stage) e f =
    let seen = stop_seen_at core.stops cpu stage in
    let whole : IsWhole (stops_stepped core cpu stage) = step_whole core cpu k.whole (stop_step core cpu stage) (rw (e, f) refl) in
    let m = reached_stops core a p pasts s k cpu stage f e whole in
    seen_first a pasts s m.t seen (replay_from (position + 1) (stops_stepped core cpu stage) rest) m.runs
    (on (stops_stepped core cpu stage) (tells a seen) (told_stops core a p pasts s k cpu stage f e whole) (kept pasts seen) m.t
    (stop_stands core a p pasts s k cpu stage f e whole))

replayed : (position : ℕ) (commands : List Turned) (core : CoreValue) (a : CallState) (p : StopState) (pasts : List Past) (s : StateValue)
    → StandsAll core a p pasts s
    → AllByRecursion FitsCpus commands → ReplayedAll a pasts s (replay_from position core commands)
replayed position [] core a p pasts s k all = record { t = s; stops = p; kept_then = pasts; run = refl; stands = k }
replayed position (turned.Start cpu c ∷ rest) core a p pasts s k all =
    started_then position rest (λ core' a' p' pasts' s' k'. replayed
    (position + 1) rest core' a' p' pasts' s' k' all.1) core a p pasts s k cpu c all.0.0 all.0.1
    (refusal_of core cpu c) refl
replayed position (turned.Step cpu ∷ rest) core a p pasts s k all =
    stepped_then position rest (λ core' a' p' pasts' s' k'. replayed (position + 1) rest core' a' p' pasts' s' k' all.1) core a p pasts s k cpu
    (control_of core.controls cpu).stage (stop_control_of core.stops.controls cpu).stage refl refl

-- before the first step

-- no stop is open
all_shut : (online j : ℕ) → (slice_index_or (replicate 64 (closed online)) j (closed 0)).is_open ≡ false
all_shut online j = elim (cases_lt j 64) [
  | inl low ↦ rw (get_or-replicate 64 j (closed online) (closed 0) low) refl
  | inr past ↦ rw (get_or_past (replicate 64 (closed online)) j (closed 0) (rw (length-replicate 64 (closed online)) past)) refl
]

opening_stops : (u : Setting) (words : LabelWords) (nr online : ℕ) (labels : Labels) → AreWordsOf u words (new_stops nr online labels)
    → FollowsStops no_stops (stop_number (new_stops nr online labels).table) all_fresh (opening u words)
unfolding opening
opening_stops u words nr online labels w = record {
  stops_are = length-replicate 64 (closed u.online);
  keys_are = w.keys_are;
  sites_are = w.sites_are;
  gate = refl;
  stops = λ j l. rw (get_or-replicate 64 j (closed u.online) (closed 0) (omega arith)) (search (length-replicate, false≢true, arith));
  no_more = λ j l. all_shut u.online j;
  cpus_are = λ cpu. record {
    inside = ap (λ (c : CpuState). c.inside) (fresh_at u words cpu);
    irq = ap (λ (c : CpuState). c.irq) (fresh_at u words cpu);
    stop = λ j e. absurd (none_some j e);
    answer = λ e. ap (λ (x : Past). x.answer) (get_or-same fresh 32 cpu);
    reads = λ e. absurd (three (ap (λ (x : Past). x.phase) (get_or-same fresh 32 cpu)) e);
  };
  keys = w.keys;
  sites = w.sites;
}
  where
    none_some : (j : ℕ) → None ≡ Some j → ⊥
    none_some j e = absurd cc

    three : {n : ℕ} → n ≡ 0 → n ≡ RUN → ⊥
    three e f = absurd (omega arith)

opening_count : (u : Setting) (words : LabelWords) (n : ℕ) → u.keys ≡ n → (opening u words).setting.keys ≡ n
unfolding opening
opening_count u words n e = e

opening_entries : (u : Setting) (words : LabelWords) (half : StopsValue) → AreWordsOf u words half → StopShown no_stops half
    → AreEntries (setup_of half.online half.labels) (opening u words).words
unfolding opening
opening_entries u words half w shown j l = w.entries j ∙ shown.shows.present.entries.read j l

-- a machine in which nothing was begun, and the model as it opens
pub all_begun : (nr online : ℕ) (labels : Labels) (u : Setting) (words : LabelWords) → let first = new_core nr online labels in
    IsWhole first → StopShown no_stops first.stops → IsOf u online → AreWordsOf u words first.stops
    → StandsAll first no_calls no_stops all_fresh (opening u words)
all_begun nr online labels u words whole none is_of words_are =
    let calls = new_stands nr online labels u words whole is_of.online is_of.whole in
    record {
      whole = whole;
      calls = calls.shown;
      stops = none;
      follows = calls.follows;
      keeps = calls.keeps;
      follows_stops = opening_stops u words nr online labels words_are;
      count = opening_count u words labels.keys words_are.count;
      entries = opening_entries u words (new_core nr online labels).stops words_are none;
      elsewhere = calls.elsewhere;
      drafts = λ cpu l. rw (get_or-same stop_outside cpus cpu) tt;
    }

pub replays_are_accepted : ReplaysAreAccepted
replays_are_accepted nr online labels commands core steps stopped u words whole none fits is_replay is_of words_are =
    let first = new_core nr online labels in
    let made : Replay = replay_made core steps stopped in
    let one = replayed 0 commands first no_calls no_stops all_fresh (opening u words) (all_begun nr online labels u words whole none is_of words_are) fits in
    let done : ReplayedAll no_calls all_fresh (opening u words) made = subst (λ (r : Replay). ReplayedAll no_calls all_fresh (opening u words) r)
    (sym is_replay) one in
    record {
      end = done.t;
      run = done.run;
      shown = done.stands.calls;
      follows = done.stands.follows;
      stops = done.stops;
      stops_shown = done.stands.stops;
      pasts = done.kept_then;
      follows_stops = done.stands.follows_stops;
    }
