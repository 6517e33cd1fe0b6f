-- The events of stops that marks tell.
use Rattle.std.specs.Prelude.{ℕ, ℤ, Bool, true, false, if◌then◌else◌, List, [], ◌∷◌, ◌++◌, slice_index_or, slice_set, remove}
use Rattle.std.specs.Prelude.{Option, Some, None, is_some, Result, Ok, Err}
use Rattle.trace_model.specs.declared.event.Event.TheVariants as event
use Rattle.trace_model.specs.declared.event.StopEvent.{StopEvent}
use Rattle.trace_model.specs.declared.event.StopEvent.TheVariants as stops
use Rattle.trace_model.specs.declared.stop.Task.{Task}
use Rattle.trace_ftrace.specs.Stops.{found_from, free_number, plan_of}
use Rattle.trace_ftrace.specs.Telling.{TellingValue, with_event}
use Rattle.trace_ftrace.specs.declared.kept.Mark.{Mark}
use Rattle.trace_ftrace.specs.declared.kept.Stamp.{Stamp}
use Rattle.trace_ftrace.specs.declared.stop_sign.Opening.{Opening}
use Rattle.trace_ftrace.specs.declared.stop_sign.Opening.TheVariants as opening
use Rattle.trace_ftrace.specs.declared.stop_sign.StopSign.{StopSign}
use Rattle.trace_ftrace.specs.declared.stop_sign.StopSign.TheVariants as stop
use Rattle.trace_ftrace.specs.declared.stop_sign.Work.{Work}
use Rattle.trace_ftrace.specs.declared.stops.Found.{Found}
use Rattle.trace_ftrace.specs.declared.stops.OpenStop.{OpenStop}
use Rattle.trace_ftrace.specs.declared.stops.Plan.{Plan}
use Rattle.trace_ftrace.specs.declared.stops.Wanted.TheVariants as wanted
use Rattle.trace_ftrace.specs.declared.wrong.Refusal.{Refusal}
use Rattle.trace_ftrace.specs.declared.wrong.Refusal.TheVariants as refusal
use Rattle.trace_ftrace.specs.declared.wrong.Wrong.TheVariants as wrong

-- what a stop is to do
abbrev pub task_of : Plan → Task
task_of p = record { kind = p.kind; mask = p.mask; active = p.active; func = p.work.func; arg = p.work.arg }

-- with an event of stops
abbrev pub with_stop : Stamp → StopEvent → TellingValue → TellingValue
with_stop at e t = with_event at (event.Stop e) t

-- a stop is opened, with the least number that none has
abbrev pub opened_as : Stamp → Plan → Option ℕ → TellingValue → Result TellingValue Refusal
opened_as at p None t = Err (refusal.Wrong at.line wrong.Stops)
opened_as at p (Some number) t =
    Ok (with_stop at (stops.Open number (task_of p))
    (record t { stops = t.stops ++ record { number = number; plan = p; has_begun = false } ∷ [] }))

unfoldable pub opened : Stamp → Plan → TellingValue → Result TellingValue Refusal
opened at p t = opened_as at p (free_number t.stops) t

-- a task opens a rendezvous of many CPUs while it waits for a stop
abbrev pub waits_in : ℕ → List OpenStop → Bool
waits_in task ss = is_some (found_from 0 (wanted.OfTask task) ss)

abbrev pub is_again : Opening → ℕ → List OpenStop → Bool
is_again (opening.Machine bits) task ss = waits_in task ss
is_again (opening.Inactive bits) task ss = waits_in task ss
is_again other task ss = false

abbrev pub opened_if : Stamp → Option Plan → TellingValue → Result TellingValue Refusal
opened_if at None t = Ok t
opened_if at (Some p) t = opened at p t

unfoldable pub begun : Stamp → Opening → Work → List Mark → TellingValue → Result TellingValue Refusal
begun at o work behind t = if is_again o at.task t.stops then Ok t else opened_if at (plan_of o work at behind) t

-- a CPU enters a rendezvous, whose data is known from there on; nothing of one that is not open
abbrev pub known_as : ℕ → OpenStop → OpenStop
known_as d s = record s { plan = record s.plan { ident = Some d } }

abbrev pub entered_at : Stamp → ℕ → Option Found → TellingValue → TellingValue
entered_at at d None t = t
entered_at at d (Some f) t =
    with_stop at (stops.Enter f.stop.number)
    (record t { stops = slice_set t.stops f.place (known_as d f.stop); inside = slice_set t.inside at.cpu (Some f.stop.number) })

unfoldable pub entered : Stamp → ℕ → ℕ → TellingValue → Result TellingValue Refusal
entered at d func t = Ok (entered_at at d (found_from 0 (wanted.Entered at.cpu d func) t.stops) t)

-- an event of a CPU that is in a rendezvous
abbrev pub told_in : Option ℕ → Stamp → StopEvent → TellingValue → TellingValue
told_in None at e t = t
told_in (Some number) at e t = with_stop at e t

abbrev pub inside_at : Stamp → StopEvent → TellingValue → TellingValue
inside_at at e t = told_in (slice_index_or t.inside at.cpu None) at e t

unfoldable pub inside_told : Stamp → StopEvent → TellingValue → Result TellingValue Refusal
inside_told at e t = Ok (inside_at at e t)

-- a CPU leaves it
abbrev pub left_at : Stamp → ℤ → Option ℕ → TellingValue → TellingValue
left_at at v None t = t
left_at at v (Some number) t = with_stop at (stops.Complete v) (record t { inside = slice_set t.inside at.cpu None })

unfoldable pub left : Stamp → ℤ → TellingValue → Result TellingValue Refusal
left at v t = Ok (left_at at v (slice_index_or t.inside at.cpu None) t)

-- a CPU begins the work of a stop of its own
abbrev pub begun_as : OpenStop → OpenStop
begun_as s = record s { has_begun = true }

abbrev pub started_at : Stamp → Work → Option Found → TellingValue → TellingValue
started_at at work None t = t
started_at at work (Some f) t =
    with_stop at (stops.Run work.func work.arg) (with_stop at (stops.Enter f.stop.number)
    (record t { stops = slice_set t.stops f.place (begun_as f.stop); alone = slice_set t.alone at.cpu (Some f.stop.number) }))

unfoldable pub started : Stamp → Work → TellingValue → Result TellingValue Refusal
started at work t = Ok (started_at at work (found_from 0 (wanted.Begun at.cpu work) t.stops) t)

-- a stop has its answer, and is no longer open
unfoldable pub collected : Stamp → Found → ℤ → TellingValue → TellingValue
collected at f v t = with_stop at (stops.Collect f.stop.number v) (record t { stops = remove t.stops f.place })

-- the same where nobody waits for it
abbrev pub collected_alone : Stamp → Option ℕ → Found → ℤ → TellingValue → TellingValue
collected_alone at (Some task) f v t = t
collected_alone at None f v t = collected at f v t

abbrev pub unwaited_at : Stamp → Option Found → ℤ → TellingValue → TellingValue
unwaited_at at None v t = t
unwaited_at at (Some f) v t = collected_alone at f.stop.plan.task f v t

unfoldable pub unwaited : Stamp → ℕ → ℤ → TellingValue → TellingValue
unwaited at number v t = unwaited_at at (found_from 0 (wanted.Of number) t.stops) v t

-- the work that a CPU began is done
abbrev pub done_at : Stamp → ℤ → Option ℕ → TellingValue → TellingValue
done_at at v None t = t
done_at at v (Some number) t =
    unwaited at number v (with_stop at (stops.Complete v) (record t { alone = slice_set t.alone at.cpu None }))

unfoldable pub done : Stamp → ℤ → TellingValue → TellingValue
done at v t = done_at at v (slice_index_or t.alone at.cpu None) t

-- a task has the answer for which it waits
abbrev pub closed_at : Stamp → ℤ → Option Found → TellingValue → TellingValue
closed_at at v None t = t
closed_at at v (Some f) t = collected at f v t

unfoldable pub closed : Stamp → ℤ → TellingValue → TellingValue
closed at v t = closed_at at v (found_from 0 (wanted.OfTask at.task) t.stops) t

-- with the events of stops that a mark tells, with the marks behind it
unfoldable pub stop_told : Stamp → StopSign → List Mark → TellingValue → Result TellingValue Refusal
stop_told at (stop.Open o work) behind t = begun at o work behind t
stop_told at (stop.Queue cpu arg) behind t = Ok t
stop_told at (stop.Enter d func) behind t = entered at d func t
stop_told at (stop.Ack phase) behind t = inside_told at (stops.Ack phase) t
stop_told at (stop.Run work) behind t = inside_told at (stops.Run work.func work.arg) t
stop_told at (stop.Leave v) behind t = left at v t
stop_told at (stop.Start work) behind t = started at work t
stop_told at (stop.Done v) behind t = Ok (done at v t)
stop_told at (stop.Close v) behind t = Ok (closed at v t)
