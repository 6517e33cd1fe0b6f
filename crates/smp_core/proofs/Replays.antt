-- One more event of a replay.
use Rattle.std.proofs.Common.{◌≡◌, ℕ, false, ◌+◌, ◌<◌, ◌≤◌, List, [], ◌∷◌, ◌++◌, Option, Some, None, Result, Ok, Err}
use Rattle.std.proofs.Common.{length, length-append, get_or, drop, sym}
use Rattle.std.proofs.Common.{◌∙◌, ap, refl, append_assoc, append-nil, arith}
use Rattle.std.proofs.lemmas.List.{drop_more, drop_all}
use Rattle.smp_call_steps.specs.Calls.{CallState, tells, tells_all, tells_if}
use Rattle.smp_call_steps.specs.Functions.{SaysWhatBegins}
use Rattle.smp_call_steps.specs.Threads.Parts.{part_of}
use Rattle.smp_call_steps.proofs.StepLaws.Saying.{says_none, says_then}
use Rattle.smp_core.specs.Value.{CoreValue, Shown}
use Rattle.std.specs.Prelude.{IfSome}
use Rattle.smp_core.specs.Machine.{StopNotesFit, setup_in}
use Rattle.smp_stop_steps.specs.Notes.{AllNotesFit, StopNoteFits}
use Rattle.smp_core.specs.Replay.{Replay, answers_from, answers_on, replay_from, replay_on, after_seen, seen_list, turn_of}
use Rattle.smp_stop_steps.specs.State.{Setup, StopState, no_stops}
use Rattle.smp_stop_steps.specs.Tells as stops
use Rattle.smp_stop_steps.specs.Tells.{tells_all as tells_stops, tells_if as stops_if}
use Rattle.smp_stop_steps.specs.Value.{StopShown}
use Rattle.smp_words.specs.declared.seen.Seen.{Seen}
use Rattle.smp_words.specs.declared.command.Event.{Event}
use Rattle.smp_mask.specs.Mask.{has}
use Rattle.smp_mask.specs.declared.error.SmpError.{SmpError}
use Rattle.smp_core.specs.Offline.{AreIdle}
use Rattle.smp_core.specs.OfflineStops.{AreInNoStop, stop_part_of}
use Rattle.smp_core.specs.Whole.{IsWhole}
use Rattle.smp_core.proofs.Offline.{still_idle}
use Rattle.smp_core.proofs.OfflineEvents.{has_no_part, in_no_stop, turn_keeps, turn_same}

-- the replay so far, and then that of the rest, is the replay of all
pub record GoesOn (first core : CoreValue) (events : List Event) (at : ℕ) (seen : List Seen) : Type 0 where
  pub run : after_seen seen (replay_from at core (drop at events)) ≡ replay_from 0 first events
  pub told : (calls : CallState) → Shown calls first → Shown (tells_all calls seen) core
  pub said : (calls : CallState) → Shown calls first → SaysWhatBegins calls seen (tells_all calls seen)
  -- the answers of the functions so far, and then those of the rest, are the answers of all
  pub answers : List ℕ
  pub answered : answers ++ answers_from core (drop at events) ≡ answers_from first events
  pub paired : length answers ≡ length seen
  pub setup : setup_in core ≡ setup_in first
  pub stops : (p : StopState) → StopShown p first.stops → StopShown (tells_stops (setup_in first) p seen answers) core.stops
  pub notes : (p : StopState) → StopShown p first.stops → AllNotesFit (setup_in first) p seen answers
  -- CPUs that are not online keep their part
  pub online : core.online ≡ first.online
  pub idle : (calls : CallState) → Shown calls first → (j : ℕ) → has first.online j ≡ false → part_of (tells_all calls seen) j ≡ part_of calls j
  pub idle_stops : (p : StopState) (j : ℕ) → has first.online j ≡ false → stop_part_of p j ≡ stop_part_of no_stops j →
      stop_part_of (tells_stops (setup_in first) p seen answers) j ≡ stop_part_of no_stops j

pub tells_all-append : (a : CallState) (xs : List Seen) (s : Option Seen) → tells_all a (xs ++ seen_list s) ≡ tells_if (tells_all a xs) s
tells_all-append a [] None = refl
tells_all-append a [] (Some s) = refl
tells_all-append a (x ∷ xs) s = tells_all-append (tells a x) xs s

after_after : (xs ys : List Seen) (r : Replay) → after_seen (xs ++ ys) r ≡ after_seen xs (after_seen ys r)
after_after xs ys r = rw (append_assoc xs ys r.seen) refl

replay_more : (at : ℕ) (core : CoreValue) (event : Event) (rest : List Event) (s : Option Seen) → Ok s ≡ (turn_of core event).answer →
    replay_from at core (event ∷ rest) ≡ after_seen (seen_list s) (replay_from (at + 1) (turn_of core event).core rest)
replay_more at core event rest s e = let e2 : (turn_of core event).answer ≡ Ok s = sym e in
    ap (λ (x : Result (Option Seen) SmpError). replay_on at (turn_of core event).core x (replay_from (at + 1) (turn_of core event).core rest)) e2

answer_list : Option Seen → ℕ → List ℕ
answer_list None answer = []
answer_list (Some seen) answer = answer ∷ []

answers_more : (s : Option Seen) (answer : ℕ) (rest : List ℕ) → answer_list s answer ++ rest ≡ answers_on (Ok s) answer rest
unfolding answer_list
answers_more s answer rest = search arith

answers_once : (s : Option Seen) (answer : ℕ) → length (answer_list s answer) ≡ length (seen_list s)
unfolding answer_list
answers_once s answer = search arith

tells_stops-append : (u : Setup) (p : StopState) (xs : List Seen) (answers : List ℕ) (s : Option Seen) (answer : ℕ) → length answers ≡ length xs →
    tells_stops u p (xs ++ seen_list s) (answers ++ answer_list s answer) ≡ stops_if u (tells_stops u p xs answers) s answer
unfolding answer_list
tells_stops-append u p [] [] None answer l = refl
tells_stops-append u p [] [] (Some s) answer l = refl
tells_stops-append u p (x ∷ xs) (a ∷ answers) s answer l = tells_stops-append u (stops.tells u p x a) xs answers s answer (omega (arith, l))
tells_stops-append u p _ _ s answer l = absurd (omega (arith, l))

-- what the note of one step more says, where one was seen
abbrev NoteFitsIf : Setup → StopState → Option Seen → ℕ → Type 0
NoteFitsIf u p None answer = Unit {0}
NoteFitsIf u p (Some seen) answer = StopNoteFits p (stops.tells u p seen answer) seen.cpu seen.word seen.note

notes_more : (u : Setup) (p : StopState) (xs : List Seen) (answers : List ℕ) (s : Option Seen) (answer : ℕ) → length answers ≡ length xs →
    AllNotesFit u p xs answers → NoteFitsIf u (tells_stops u p xs answers) s answer → AllNotesFit u p (xs ++ seen_list s) (answers ++ answer_list s answer)
unfolding answer_list
notes_more u p [] [] None answer l so_far more = tt
notes_more u p [] [] (Some s) answer l so_far more = (more, tt)
notes_more u p (x ∷ xs) (a ∷ answers) s answer l so_far more =
    (so_far.0, notes_more u (stops.tells u p x a) xs answers s answer (omega (arith, l)) so_far.1 more)
notes_more u p _ _ s answer l so_far more = absurd (omega (arith, l))

-- at first no step is seen
pub starts : (first : CoreValue) (events : List Event) (seen : List Seen) → seen ≡ [] → GoesOn first first events 0 seen
starts first events seen none = rw none (record {
  run = refl;
  told = λ calls shown. shown;
  said = λ calls shown. says_none calls;
  answers = [];
  answered = refl;
  paired = refl;
  setup = refl;
  stops = λ p shown. shown;
  notes = λ p shown. tt;
  online = refl;
  idle = λ calls shown j off. refl;
  idle_stops = λ p j off none. none;
})

-- the events from one that is read on
read_more : (events : List Event) (at : ℕ) (event : Event) → at < length events → event ≡ get_or events at event →
    drop at events ≡ event ∷ drop (at + 1) events
read_more events at event l e = drop_more events at event l ∙ ap (λ (x : Event). x ∷ drop (at + 1) events) (sym e)

answers_next : (core : CoreValue) (events : List Event) (at : ℕ) (event : Event) → at < length events → event ≡ get_or events at event →
    answers_from core (drop at events) ≡ answers_on (turn_of core event).answer (turn_of core event).answered
    (answers_from (turn_of core event).core (drop (at + 1) events))
answers_next core events at event l e = ap (answers_from core) (read_more events at event l e)

notes_fit : (core : CoreValue) (answered : ℕ) (o : Option Seen) → IfSome o (λ seen. StopNotesFit core seen answered) → (p : StopState) →
    StopShown p core.stops → NoteFitsIf (setup_in core) p o answered
notes_fit core answered None n p shown = tt
notes_fit core answered (Some seen) n p shown = n p shown

-- one event more, which was read there
pub goes_on : (first core core' : CoreValue) (events : List Event) (at : ℕ) (event : Event) (seen seen' : List Seen) (s : Option Seen) → at < length events
    → event ≡ get_or events at event →
    Ok s ≡ (turn_of core event).answer → core' ≡ (turn_of core event).core → seen' ≡ seen ++ seen_list s →
    ((calls : CallState) → Shown calls core → Shown (tells_if calls s) core') →
    ((calls : CallState) → Shown calls core → SaysWhatBegins calls (seen_list s) (tells_if calls s)) →
    ((p : StopState) → StopShown p core.stops → StopShown (stops_if (setup_in core) p s (turn_of core event).answered) core'.stops) →
    IfSome s (λ seen. StopNotesFit core seen (turn_of core event).answered) → IsWhole core →
    GoesOn first core events at seen → GoesOn first core' events (at + 1) seen'
unfolding answer_list
goes_on first core core' events at event seen seen' s l e answer is_core is_seen told said stops notes whole g =
    let answered = (turn_of core event).answered in
    let answers = g.answers in
    let next : answers_from core (drop at events) ≡ answer_list s answered ++ answers_from core' (drop (at + 1) events) =
    answers_next core events at event l e ∙ (rw (← answer, ← is_core) (sym (answers_more s answered (answers_from core' (drop (at + 1) events))))) in
    record {
      answers = answers ++ answer_list s answered;
      answered = append_assoc answers (answer_list s answered) (answers_from core' (drop (at + 1) events))
          ∙ (ap (λ (x : List ℕ). answers ++ x) (sym next) ∙ g.answered);
      paired = length-append answers (answer_list s answered)
          ∙ (let once = answers_once s answered in let so_far = g.paired in let both = length-append seen (seen_list s) in
          rw (is_seen, both) (omega (arith, once, so_far)));
      setup = rw is_core (turn_same core event).1 ∙ g.setup;
      stops = λ p shown. rw (is_seen, tells_stops-append (setup_in first) p seen answers s answered g.paired, ← g.setup)
          (stops (tells_stops (setup_in core) p seen answers) (rw (← g.setup) at (g.stops p shown)));
      notes = λ p shown. rw (is_seen, ← g.setup) (notes_more (setup_in core) p seen answers s answered g.paired (rw (← g.setup) at (g.notes p shown))
          (notes_fit core answered s notes (tells_stops (setup_in core) p seen answers) (rw (← g.setup) at (g.stops p shown))));
      run = rw (is_seen, is_core) (after_after seen (seen_list s) (replay_from (at + 1) (turn_of core event).core (drop (at + 1) events)) ∙
          (ap (after_seen seen) (sym (replay_more at core event (drop (at + 1) events) s answer)
          ∙ ap (replay_from at core) (sym (read_more events at event l e))) ∙ g.run));
      told = λ calls shown. rw (is_seen, tells_all-append calls seen s) (told (tells_all calls seen) (g.told calls shown));
      said = λ calls shown. rw (is_seen, tells_all-append calls seen s)
          (says_then calls (tells_all calls seen) (tells_if (tells_all calls seen) s) seen (seen_list s) (g.said calls shown)
          (said (tells_all calls seen) (g.told calls shown)));
      online = ap (λ (c : CoreValue). c.online) is_core ∙ ((turn_same core event).0 ∙ g.online);
      idle = λ calls shown j off. rw (is_seen, tells_all-append calls seen s)
          ((turn_keeps core whole j (rw g.online off) event s answer).0 (tells_all calls seen) (g.told calls shown) ∙ g.idle calls shown j off);
      idle_stops = λ p j off none. rw (is_seen, tells_stops-append (setup_in first) p seen answers s answered g.paired, ← g.setup)
          ((turn_keeps core whole j (rw g.online off) event s answer).1 (tells_stops (setup_in core) p seen answers)
          (rw (← g.setup) at (g.idle_stops p j off none)));
    }

-- the core shows the stops that these steps tell, and their notes say what they have changed; CPUs that are not online stay in no stop
abbrev pub IsToldBy : CoreValue → CoreValue → List Event → List Seen → StopState → Type 0
IsToldBy first core events seen p = StopShown (tells_stops (setup_in first) p seen (answers_from first events)) core.stops ×
    AllNotesFit (setup_in first) p seen (answers_from first events) ×
    (AreInNoStop first.online p → AreInNoStop first.online (tells_stops (setup_in first) p seen (answers_from first events)))

-- all so far, by the answers so far
told_so_far : (first core : CoreValue) (events : List Event) (at : ℕ) (seen : List Seen) (g : GoesOn first core events at seen) → IsWhole core →
    answers_from core (drop at events) ≡ [] → (p : StopState) → StopShown p first.stops → IsToldBy first core events seen p
told_so_far first core events at seen g whole none p shown =
    let whole_answers : g.answers ≡ answers_from first events = sym (append-nil g.answers) ∙ (ap (λ (x : List ℕ). g.answers ++ x) (sym none) ∙ g.answered) in
    rw (← whole_answers) (
      g.stops p shown,
      g.notes p shown,
      λ idle j off. in_no_stop core whole (tells_stops (setup_in first) p seen g.answers)
          (g.stops p shown) (λ c out. g.idle_stops p c (rw g.online at out) (has_no_part p c (idle c (rw g.online at out)))) j (rw g.online off),
    )

-- and CPUs that are not online stay idle
pub idle_so_far : (first core : CoreValue) (events : List Event) (at : ℕ) (seen : List Seen) → GoesOn first core events at seen → IsWhole core →
    (calls : CallState) → Shown calls first → AreIdle first.online calls → AreIdle first.online (tells_all calls seen)
idle_so_far first core events at seen g whole calls shown idle j off = still_idle core.online core.words core.controls whole.sound.apart calls
    (tells_all calls seen) (g.told calls shown) j (rw g.online off) (g.idle calls shown j off) (idle j off)

-- where the next event is refused, the answers so far are those of all
pub ends_refused : (first core core' : CoreValue) (events : List Event) (at : ℕ) (event : Event) (seen : List Seen) (refused : SmpError) → at < length events
    → event ≡ get_or events at event →
    Err refused ≡ (turn_of core event).answer → core' ≡ core → IsWhole core → GoesOn first core events at seen →
    (p : StopState) → StopShown p first.stops → IsToldBy first core' events seen p
ends_refused first core core' events at event seen refused l e answer same whole g p shown =
    let none : answers_from core (drop at events) ≡ [] = answers_next core events at event l e ∙ rw (← answer) refl in
    rw same (told_so_far first core events at seen g whole none p shown)

-- and so they are at the end
pub GoesOn-all : (first core : CoreValue) (events : List Event) (at : ℕ) (seen : List Seen) → length events ≤ at → IsWhole core →
    GoesOn first core events at seen → (p : StopState) → StopShown p first.stops → IsToldBy first core events seen p
GoesOn-all first core events at seen l whole g p shown = told_so_far first core events at seen g whole (ap (answers_from core) (drop_all at events l)) p shown
