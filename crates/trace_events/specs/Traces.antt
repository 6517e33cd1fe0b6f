-- The events of steps, and the lines that they are written as.
use Rattle.std.specs.Prelude.{ℕ, List, [], ◌∷◌, ◌++◌, map, slice_set, replicate}
use Rattle.std.specs.List.{flat_map}
use Rattle.trace_model.specs.declared.event.Event.{Event}
use Rattle.smp_words.specs.declared.seen.Seen.{Seen}
use Rattle.trace_events.specs.Past.{after, fresh, past_at}
use Rattle.trace_events.specs.Text.{line_text}
use Rattle.trace_events.specs.StepEvents.{events_in, told_of}
use Rattle.trace_events.specs.declared.past.Past.{Past}

-- no CPU has done anything
abbrev pub all_fresh : List Past
all_fresh = replicate 32 fresh

-- the events that a step tells, with its CPU
abbrev pub events_of_step : List Past → Seen → List (ℕ × Event)
events_of_step pasts s = map (λ e. (s.cpu, e)) (events_in (told_of (past_at pasts s.cpu) s))

-- what each CPU has done, with this step
abbrev pub kept : List Past → Seen → List Past
kept pasts s = slice_set pasts s.cpu (after (past_at pasts s.cpu) s)

-- the events of these steps, by what each CPU has done before
abbrev pub events_of : List Past → List Seen → List (ℕ × Event)
events_of pasts [] = []
events_of pasts (s ∷ ss) = events_of_step pasts s ++ events_of (kept pasts s) ss

-- the lines of events
abbrev pub lines_text : List (ℕ × Event) → List ℕ
lines_text events = flat_map (λ e. line_text e.0 e.1) events
