-- What a CPU knows is its part of stops that keep all laws.
use Rattle.std.proofs.Common.{ℕ, refl, ◌≡◌, ◌≢◌, ◌<◌, true, false, Option, Some, None, List, subst, sym, ap, ◌∙◌}
use Rattle.smp_mask.specs.Mask.{has}
use Rattle.smp_words.specs.Size.{cpus}
use Rattle.smp_words.specs.Put.{put}
use Rattle.smp_words.proofs.Puts.{put_all, put_same, put_other}
use Rattle.smp_stop_steps.specs.Threads.Known.{fresh, setup_in, Sees, told_calling, told_source}
use Rattle.smp_multi.specs.Lives.{Lives, StopMoment, StaysWithin}
use Rattle.smp_stop_steps.proofs.Promises.StopLaws.{keeps_laws}
use Rattle.smp_multi.specs.Cpu.{cpu_of, inside_of, part_with}
use Rattle.smp_multi.specs.Laws.{Finds, FindsCount, StopsAreShown, IsInside, IsPending}
use Rattle.smp_stop_steps.specs.Callings.{IsCalling, with_answer}
use Rattle.smp_stop_steps.specs.Seats.{RoleStands, irq_of}
use Rattle.smp_stop_steps.specs.Shows.{StopShows}
use Rattle.smp_stop_steps.specs.Sits.{SitsAtRest}
use Rattle.smp_stop_steps.specs.Sources.{SourceShows}
use Rattle.smp_stop_steps.specs.State.{Present, Setup, StopState}
use Rattle.smp_stop_steps.specs.Stop.{Stop, acked}
use Rattle.smp_stop_steps.specs.declared.stage.Visit.{Visit}
use Rattle.smp_multi.specs.Names.{Word, Slot, Key, Field, StopRole, Free, In, Gives, Alters, Closes, Source, Shut, Drafts, Owns, Collects}
use Rattle.smp_multi.specs.Names.{KnownStops, StopCall, Calling, Idle, Calls, Carries}
use Rattle.smp_multi.specs.Places.{pending_of}
use Rattle.smp_multi.specs.Seat.{SeatValue}

pub inside_shown : (n : Present) (me : ℕ) (x : StopRole) → RoleStands n me x → IsInside n me (inside_of x)
inside_shown n me Free st = st
inside_shown n me (In s w a l t) st = (st.0, st.3, ap acked st.1)
inside_shown n me (Closes s) st = st.0
inside_shown n me _ st = (st.0, st.3, ap acked st.1)

pub pending_shown : (u : Setup) (gate : Option ℕ) (stop : Stop) (word : Field → ℕ) (me : ℕ) (y z : Source) → SourceShows u gate stop word me y
    → told_source y ≡ z → IsPending stop (pending_of z)
pending_shown u gate stop word me y z shows e = subst (λ x. IsPending stop (pending_of x)) e (go y shows)
  where
    go : (y : Source) → SourceShows u gate stop word me y → IsPending stop (pending_of (told_source y))
    go Shut s = s
    go (Drafts w k) s = s.shut
    go (Owns w) s = (s.is_open, s.work_is)
    go (Collects w) s = (s.0.is_open, s.0.work_is)

-- the answer of a function is in no word before it is given
abbrev pub HasNotGiven : StopRole → Type 0
HasNotGiven (Gives s w a x) = ⊥
HasNotGiven _ = Unit {0}

pub rests_ungiven : (visit : Option Visit) (x : StopRole) → SitsAtRest visit x → HasNotGiven x
rests_ungiven None x rests = subst HasNotGiven (sym rests) tt
rests_ungiven (Some v) x rests = subst HasNotGiven (sym rests.2) tt

-- so any may be put for it
answer_put : (c : ℕ) (x : StopRole) (y : ℕ) (f : Calling) → HasNotGiven x → IsCalling c x f → IsCalling c x (with_answer y f)
answer_put c Free y Idle free k = k
answer_put c Free y (Calls call) free k = absurd k
answer_put c Free y (Carries z) free k = absurd k
answer_put c (In s w a l t) y Idle free k = k
answer_put c (In s w a l t) y (Calls call) free k = k
answer_put c (In s w a l t) y (Carries z) free k = k
answer_put c (Gives s w a v) y f free k = absurd free
answer_put c (Alters s w count made rest) y Idle free k = k
answer_put c (Alters s w count made rest) y (Calls call) free k = absurd k
answer_put c (Alters s w count made rest) y (Carries z) free k = absurd k
answer_put c (Closes s) y Idle free k = k
answer_put c (Closes s) y (Calls call) free k = absurd k
answer_put c (Closes s) y (Carries z) free k = absurd k

told_with : (y : ℕ) (f : Calling) → told_calling (with_answer y f) ≡ told_calling f
told_with y Idle = refl
told_with y _ = refl

with_told : (y : ℕ) (f : Calling) → with_answer y (told_calling f) ≡ with_answer y f
with_told y Idle = refl
with_told y _ = refl

-- the same stops, where this CPU has made these calls and carries this answer
abbrev pub stops_with : ℕ → List StopCall → ℕ → StopState → StopState
stops_with y calls me p = record p { calls = put p.calls me calls; calling = put p.calling me (with_answer y (p.calling me)) }

module _ (d : SeatValue) (l : Lives d.known) (y : ℕ) (calls : List StopCall) where
  abbrev me : ℕ
  me = d.known.number

  pub shown_with : HasNotGiven d.known.seat → StopShows (setup_in d.known.setting) (stops_with y calls me l.stops) l.at l.seat l.source
  shown_with free = record {
    setup = l.shown.setup;
    present = l.shown.present;
    gate = l.shown.gate;
    callings = put_all (λ c f. IsCalling c (l.seat c) f) l.stops.calling me (with_answer y (l.stops.calling me))
        (answer_put me (l.seat me) y (l.stops.calling me) (subst HasNotGiven (sym l.sees.seat_is) free) (l.shown.callings me))
        (λ c ne. l.shown.callings c);
    closing = l.shown.closing;
    sources = l.shown.sources;
    past = l.shown.past;
    owns = l.shown.owns;
    counts = l.shown.counts;
  }

  pub sees_with : Sees (stops_with y calls me l.stops) l.seat l.source d.known
  sees_with = let part = l.sees.part_is in record {
    below = l.sees.below;
    seat_is = l.sees.seat_is;
    source_is = l.sees.source_is;
    is_begun = l.sees.is_begun;
    part_is = record {
      holds = part.holds;
      begun = part.begun;
      collected = part.collected;
      answers = part.answers;
      looks = part.looks;
      calling = ap told_calling (put_same l.stops.calling me (with_answer y (l.stops.calling me))) ∙ (told_with y (l.stops.calling me) ∙ part.calling);
      readings = part.readings;
      nudged = part.nudged;
      patched = part.patched;
    };
  }

  -- CPUs that are not online are others
  offline_with : (cpu : ℕ) → cpu < cpus → has d.known.setting.online cpu ≡ false
      → Sees (stops_with y calls me l.stops) l.seat l.source (fresh d.known.setting cpu)
  offline_with cpu low off =
      let s = l.within.offline cpu low off in
      let part = s.part_is in
      let other : cpu ≢ me = λ same. let bad : true ≡ false = sym l.online ∙ (ap (has d.known.setting.online) (sym same) ∙ off) in cc in
      record {
        below = s.below;
        seat_is = s.seat_is;
        source_is = s.source_is;
        is_begun = s.is_begun;
        part_is = record {
          holds = part.holds;
          begun = part.begun;
          collected = part.collected;
          answers = part.answers;
          looks = part.looks;
          calling = ap told_calling (put_other l.stops.calling me (with_answer y (l.stops.calling me)) cpu other) ∙ part.calling;
          readings = part.readings;
          nudged = part.nudged;
          patched = part.patched;
        };
      }

  pub within_with : StaysWithin d.known.setting (stops_with y calls me l.stops) l.at l.seat l.source
  within_with = record { results = l.within.results; offline = offline_with; beyond = l.within.beyond }

  pub carries_with : with_answer y (l.stops.calling me) ≡ with_answer y d.known.part.calling
  carries_with = sym (with_told y (l.stops.calling me)) ∙ ap (with_answer y) l.sees.part_is.calling

  pub calling_with : put l.stops.calling me (with_answer y (l.stops.calling me)) me ≡ with_answer y d.known.part.calling
  calling_with = put_same l.stops.calling me (with_answer y (l.stops.calling me)) ∙ carries_with

abbrev pub is_shown : (d : SeatValue) → Lives d.known → HasNotGiven d.known.seat → StopsAreShown (cpu_of d)
is_shown d l free =
    let me = d.known.number in
    let answer = d.known.carried in
    let calls = (part_with answer d.known).calls in
    let shown = shown_with d l answer calls free in
    record {
      stops = stops_with answer calls me l.stops;
      at = l.at;
      seat = l.seat;
      source = l.source;
      shown = shown;
      laws = keeps_laws (setup_in d.known.setting) (stops_with answer calls me l.stops) l.at l.seat l.source shown;
      within = within_with d l answer calls;
      known = d.known;
      lives = l;
      words = refl;
      alike = ap (λ f. record (l.stops) { calls = put l.stops.calls me calls; calling = put l.stops.calling me f }) (carries_with d l answer calls);
      sees = sees_with d l answer calls;
      view = refl;
      inside = inside_shown l.stops.now me d.known.seat (subst (RoleStands l.stops.now me) l.sees.seat_is (l.shown.present.stands me));
      irq = l.shown.present.irq me ∙ ap irq_of l.sees.seat_is;
      pending = pending_shown (setup_in d.known.setting) l.stops.gate (l.stops.now.stop me) (λ f. l.at (Slot me f)) me (l.source me) d.known.source
          (l.shown.sources me) l.sees.source_is;
      calls = put_same l.stops.calls me calls;
      calling = calling_with d l answer calls;
    }

-- what is in a word at a moment
abbrev pub lives_at : (v : KnownStops) (word : Word) (n : ℕ) → StopMoment v word n → Lives v
lives_at v word n m = record {
  stops = m.stops;
  at = m.at;
  reached = m.reached;
  seat = m.seat;
  source = m.source;
  shown = m.shown;
  sees = m.sees;
  within = m.within;
  online = m.online;
}

pub finds : (d : SeatValue) (word : Word) (n : ℕ) → HasNotGiven d.known.seat → StopMoment d.known word n → Finds (cpu_of d) word n
finds d word n free m = record {
  shown = is_shown d (lives_at d.known word n m) free;
  found = sym m.number_is;
}

pub finds_count : (d : SeatValue) (k n : ℕ) → HasNotGiven d.known.seat → StopMoment d.known (Key k) n → FindsCount (cpu_of d) k n
finds_count d k n free m = finds d (Key k) n free m
