-- What is seen of a replay, moment by moment.
use Rattle.std.specs.Prelude.{ℕ, ◌+◌, Bool, true, false, if◌then◌else◌, List, [], ◌∷◌, Option, Some, None, Result, Ok, Err}
use Rattle.smp_mask.specs.declared.error.SmpError.{SmpError}
use Rattle.smp_core.specs.Value.{CoreValue}
use Rattle.smp_core.specs.Replay.{turn_of}
use Rattle.smp_words.specs.declared.seen.Seen.{Seen}
use Rattle.smp_words.specs.declared.command.Event.{Event}
use Rattle.smp_words.specs.declared.command.Event.TheVariants as event
use Rattle.trace_events.specs.declared.moments.Asked.{Asked}
use Rattle.trace_events.specs.declared.moments.Asked.TheVariants.{Turn, Show}
use Rattle.trace_events.specs.declared.moments.Moment.{Moment}
use Rattle.trace_events.specs.declared.rows.Row.{Row}
use Rattle.trace_events.specs.declared.rows.What.{What}
use Rattle.trace_events.specs.declared.rows.What.TheVariants.{Began, Stepped, Refused, Shown}

abbrev pub event_cpu : Event → ℕ
event_cpu (event.Start cpu command) = cpu
event_cpu (event.Step cpu) = cpu

-- the CPU of an event, or 0
abbrev pub asked_cpu : Asked → ℕ
asked_cpu (Turn e) = event_cpu e
asked_cpu Show = 0

abbrev pub what_seen : Option Seen → What
what_seen (Some seen) = Stepped seen
what_seen None = Began

-- what came of an event by its answer
abbrev pub what_of : Result (Option Seen) SmpError → What
what_of (Ok seen) = what_seen seen
what_of (Err error) = Refused error

abbrev pub is_refused : What → Bool
is_refused (Refused error) = true
is_refused _ = false

-- how many events it was
abbrev pub turns_in : Asked → ℕ
turns_in (Turn e) = 1
turns_in Show = 0

-- what was seen at one moment, and the core after it
pub record Looked : Type 0 where
  pub row : Row
  pub core : CoreValue

abbrev pub turned : CoreValue → ℕ → ℕ → ℕ → Event → Looked
turned core number line cpu e = record {
  row = record { number = number; line = line; cpu = cpu; what = what_of (turn_of core e).answer };
  core = (turn_of core e).core;
}

abbrev pub looked_at : CoreValue → ℕ → ℕ → ℕ → Asked → Looked
looked_at core number line cpu (Turn e) = turned core number line cpu e
looked_at core number line cpu Show = record { row = record { number = number; line = line; cpu = cpu; what = Shown }; core = core }

abbrev pub looked : CoreValue → ℕ → Moment → Looked
looked core number m = looked_at core number m.line (asked_cpu m.asked) m.asked

-- what is seen of a replay up to the first event that is refused, where its first event has this number
abbrev pub rows_of : CoreValue → ℕ → List Moment → List Row
rows_of core number [] = []
rows_of core number (m ∷ ms) =
    (looked core number m).row
    ∷ (if is_refused (looked core number m).row.what then [] else rows_of (looked core number m).core (number + turns_in m.asked) ms)
