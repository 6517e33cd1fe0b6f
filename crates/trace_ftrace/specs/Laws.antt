-- What is printed of a text behind the verdict on it.
use Rattle.std.specs.Prelude.{ℕ, Bool, List, [], ◌∷◌, map, Option, Some, Result, Ok}
use Rattle.smp_script.specs.Lines.{lines_of}
use Rattle.smp_words.specs.FirstFault.{◌>>=◌}
use Rattle.smp_words.specs.declared.call.Class.TheVariants as class
use Rattle.trace_model.specs.declared.event.CallEvent.TheVariants as calls
use Rattle.trace_model.specs.declared.event.Event.{Event}
use Rattle.trace_model.specs.declared.event.Event.TheVariants as event
use Rattle.trace_judge.specs.Head.{head_of}
use Rattle.trace_judge.specs.Runs.{told_by}
use Rattle.trace_judge.specs.declared.early_end.EarlyEnd.{EarlyEnd}
use Rattle.trace_ftrace.specs.Bounds.{bounds_of, shows_order}
use Rattle.trace_ftrace.specs.Options.{◌>>?◌}
use Rattle.trace_ftrace.specs.Placing.{placed}
use Rattle.trace_ftrace.specs.Reading.{reading_of}
use Rattle.trace_ftrace.specs.Text.{source_of, waits_of}
use Rattle.trace_ftrace.specs.declared.moment.Moment.{Moment}
use Rattle.trace_ftrace.specs.declared.placing.Choice.{Choice}
use Rattle.trace_ftrace.specs.declared.placing.Choice.TheVariants as choice
use Rattle.trace_ftrace.specs.declared.placing.Step.{Step}
use Rattle.trace_ftrace.specs.declared.wrong.Refusal.{Refusal}

-- the calls of a text that wait for more than this time
abbrev pub waits_in : ℕ → List ℕ → Result (List ℕ) Refusal
waits_in slow text = reading_of 0 text >>= λ r. Ok (waits_of (source_of text slow r.0 r.1))

-- the events that the lines of a trace tell
abbrev pub events_read : List ℕ → Result (List (ℕ × Event)) EarlyEnd
events_read text =
    head_of (lines_of text) >>= λ h. told_by h.setting h.cursor.number h.cursor.used h.cursor.lines >>= λ t. Ok t.events

-- the events of a text in an order that is chosen, with their CPUs; none where its lines do not allow it
abbrev pub told_event : Step → ℕ × Event
told_event s = (s.told.cpu, s.told.event)

abbrev pub events_in : List Choice → List ℕ → Result (Option (List (ℕ × Event))) Refusal
events_in choices text =
    reading_of 0 text >>= λ r. Ok (placed choices r.1.told (bounds_of r.0.marks) >>? λ steps. Some (map told_event steps))

-- the first append is behind the second, which is at its line of this number and time 20; then CPU 0 takes both
abbrev pub near : ℕ → ℕ → Moment
near line nth = record { time = 20; line = line; nth = nth }

abbrev pub swapped : ℕ → List Choice
swapped line = choice.Next (near line 2) ∷ choice.Next (near line 1) ∷ choice.Take (record { cpu = 0; at = near line 3; line = line; time = 20 })
    ∷ choice.Next (near line 1) ∷ []

abbrev pub swapped_events : List (ℕ × Event)
swapped_events = (1, event.Call (calls.Free 0)) ∷ (2, event.Call (calls.Queue 1 0 class.Async 1 0))
    ∷ (1, event.Call (calls.Queue 0 0 class.Async 0 0)) ∷ (0, event.Call calls.Take) ∷ (0, event.Call (calls.Begin 1 1 0)) ∷ []

-- the lines of a text show enough to judge order
abbrev pub is_order_shown : List ℕ → Result Bool Refusal
is_order_shown text = reading_of 0 text >>= λ r. Ok (shows_order r.0.marks)
