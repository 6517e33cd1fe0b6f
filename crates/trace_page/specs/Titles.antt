-- What a picture says of a kernel's event, by the kernel's names.
use Rattle.std.specs.Prelude.{ℕ, ◌/◌, ◌%◌, List, [], ◌++◌, codes, min, length, take}
use Rattle.std.specs.Fmt.{decimal}
use Rattle.trace_events.specs.Text.{numbered_text}
use Rattle.trace_ftrace.specs.Names.{NamesValue, csd_text, function_text}
use Rattle.trace_ftrace.specs.declared.told.Told.{Told}
use Rattle.trace_model.specs.declared.event.CallEvent.{CallEvent}
use Rattle.trace_model.specs.declared.event.CallEvent.TheVariants as calls
use Rattle.trace_model.specs.declared.event.Event.{Event}
use Rattle.trace_model.specs.declared.event.Event.TheVariants as event
use Rattle.trace_page.specs.Escapes.{escaped}

-- a time in microseconds, with three digits behind the point
unfoldable pub time_text : ℕ → List ℕ
time_text time = decimal (time / 1000) ++ codes "." ++ decimal (time / 100 % 10) ++ decimal (time / 10 % 10) ++ decimal (time % 10)

-- an event of calls by the kernel's names
abbrev pub call_text : NamesValue → CallEvent → List ℕ
call_text n (calls.Queue id to class func info) =
    codes "queue " ++ escaped (function_text n func) ++ codes " for CPU " ++ decimal to ++ codes ", " ++ csd_text n id
call_text n (calls.Begin id func info) = codes "begin " ++ escaped (function_text n func) ++ codes ", " ++ csd_text n id
call_text n (calls.End id) = codes "end, " ++ csd_text n id
call_text n e = numbered_text (event.Call e)

-- an event: of stops as a trace has it
abbrev pub event_text : NamesValue → Event → List ℕ
event_text n (event.Call e) = call_text n e
event_text n e = numbered_text e

-- the line that tells an event, its time, its CPU, and what it is
unfoldable pub title_of : NamesValue → Told → List ℕ
title_of n x =
    codes "line " ++ decimal x.line ++ codes ", " ++ time_text x.time ++ codes ": CPU " ++ decimal x.cpu ++ codes " " ++ event_text n x.event

-- the front of a function's name that finds this room
abbrev pub fitted : ℕ → List ℕ → List ℕ
fitted room name = escaped (take (min (length name) room) name)

unfoldable pub label_of : NamesValue → Event → ℕ → List ℕ
label_of n (event.Call (calls.Begin id func info)) room = fitted room (function_text n func)
label_of n e room = []
