-- The events of a text in the trace-event format.
use Rattle.std.specs.Prelude.{ℕ, zero, suc}
use Rattle.std.specs.Prelude.{List, [], ◌∷◌, ◌++◌, Option, Some, None, Result, Ok, codes}
use Rattle.smp_script.specs.Spelling.{mask_text}
use Rattle.smp_words.specs.FirstFault.{◌>>=◌}
use Rattle.trace_model.specs.declared.event.CallEvent.{CallEvent}
use Rattle.trace_model.specs.declared.event.CallEvent.TheVariants as calls
use Rattle.trace_model.specs.declared.event.Event.{Event}
use Rattle.trace_model.specs.declared.event.Event.TheVariants as event
use Rattle.trace_model.specs.declared.event.StopEvent.{StopEvent}
use Rattle.trace_model.specs.declared.event.StopEvent.TheVariants as stops
use Rattle.trace_model.specs.declared.stop.Task.{Task}
use Rattle.trace_ftrace.specs.JsonPieces.{between, hex_text, quoted, time_text}
use Rattle.trace_ftrace.specs.Kept.{KeptValue}
use Rattle.trace_ftrace.specs.Names.{NamesValue, csd_text, function_text}
use Rattle.trace_ftrace.specs.Telling.{TellingValue}
use Rattle.trace_ftrace.specs.Waits.{begun, left_after}
use Rattle.trace_ftrace.specs.declared.json.Kind.{Kind}
use Rattle.trace_ftrace.specs.declared.json.Kind.TheVariants as kind
use Rattle.trace_ftrace.specs.declared.told.Told.{Told}
use Rattle.trace_ftrace.specs.declared.waits.FoundCall.{FoundCall}
use Rattle.trace_ftrace.specs.declared.waits.QueuedCall.{QueuedCall}
use Rattle.trace_ftrace.specs.declared.wrong.Refusal.{Refusal}

-- what an entry is, up to its own numbers and names
unfoldable pub kind_text : Kind → List ℕ
kind_text kind.Queue = codes ",\"ph\":\"X\",\"dur\":0,\"name\":\"queue "
kind_text kind.Flow = codes ",\"ph\":\"s\",\"cat\":\"call\",\"name\":\"call\",\"id\":"
kind_text kind.FlowEnd = codes ",\"ph\":\"f\",\"bp\":\"e\",\"cat\":\"call\",\"name\":\"call\",\"id\":"
kind_text kind.Begin = codes ",\"ph\":\"B\",\"name\":\""
kind_text kind.End = codes ",\"ph\":\"E\"}"
kind_text kind.Open = codes ",\"ph\":\"b\",\"cat\":\"stop\",\"name\":\"stop "
kind_text kind.Collect = codes ",\"ph\":\"e\",\"cat\":\"stop\",\"name\":\"stop "
kind_text kind.Enter = codes ",\"ph\":\"B\",\"name\":\"stop "
kind_text kind.Ack = codes ",\"ph\":\"i\",\"s\":\"t\",\"name\":\"ack "
kind_text kind.Run = codes ",\"ph\":\"i\",\"s\":\"t\",\"name\":\"run "

-- the front of an entry: on the track of its CPU, when, and what it is
unfoldable pub entry_text : Kind → Told → List ℕ
entry_text k x = between (codes ",\n{\"pid\":0,\"tid\":") x.cpu (codes ",\"ts\":") ++ time_text x.time ++ kind_text k

-- the function of a call, the line that tells the event, and the call's record
unfoldable pub called_text : NamesValue → ℕ → ℕ → ℕ → List ℕ
called_text n line id func =
    quoted (function_text n func) ++ between (codes "\",\"args\":{\"line\":") line (codes ",\"record\":\"") ++ csd_text n id ++ codes "\"}}"

-- a call that is queued, and the flow that begins there, by the number of its line
unfoldable pub queue_text : NamesValue → Told → ℕ → ℕ → List ℕ
queue_text n x id func = entry_text kind.Queue x ++ called_text n x.line id func ++ entry_text kind.Flow x ++ between [] x.line (codes "}")

-- the function of a call is entered
unfoldable pub begin_text : NamesValue → Told → ℕ → ℕ → List ℕ
begin_text n x id func = entry_text kind.Begin x ++ called_text n x.line id func

-- the flow ends where the call is begun that was found
abbrev pub flow_end : Told → Option FoundCall → List ℕ
flow_end x None = []
flow_end x (Some f) = entry_text kind.FlowEnd x ++ between [] f.call.line (codes "}")

-- the CPUs of a stop, at the end of an entry
unfoldable pub cpus_end : ℕ → List ℕ
cpus_end mask = mask_text mask ++ codes "\"}}"

-- the number of a stop, and the line that tells it
unfoldable pub opening_text : Told → ℕ → List ℕ
opening_text x number = between [] number (codes ",\"args\":") ++ between (codes "{\"line\":") x.line (codes ",\"fn\":\"")

-- these, the function and the CPUs of a stop that is opened
unfoldable pub task_text : Told → ℕ → Task → List ℕ
task_text x number t = opening_text x number ++ hex_text t.func (codes "\",\"cpus\":\"") ++ cpus_end t.mask

-- a stop is opened, and its result is collected
unfoldable pub open_text : Told → ℕ → Task → List ℕ
open_text x number t = entry_text kind.Open x ++ between [] number (codes "\",\"id\":") ++ task_text x number t

unfoldable pub collect_text : Told → ℕ → List ℕ
collect_text x number = entry_text kind.Collect x ++ between [] number (codes "\",\"id\":") ++ between [] number (codes "}")

-- a CPU is in the stop of a number
unfoldable pub enter_text : Told → ℕ → List ℕ
enter_text x number = entry_text kind.Enter x ++ between [] number (codes "\",\"args\":{\"line\":") ++ between [] x.line (codes "}}")

-- it acknowledges a phase, and enters the function of the stop
abbrev pub ack_text : Told → ℕ → List ℕ
ack_text x phase = entry_text kind.Ack x ++ between [] phase (codes "\"}")

abbrev pub run_text : Told → ℕ → List ℕ
run_text x func = entry_text kind.Run x ++ hex_text func (codes "\"}")

-- an event of calls, and of stops; nothing of one that no text tells
abbrev pub call_text : NamesValue → Told → CallEvent → List ℕ
call_text n x (calls.Queue id to class func info) = queue_text n x id func
call_text n x (calls.Begin id func info) = begin_text n x id func
call_text n x (calls.End id) = entry_text kind.End x
call_text n x _ = []

abbrev pub stop_text : Told → StopEvent → List ℕ
stop_text x (stops.Open number task) = open_text x number task
stop_text x (stops.Enter number) = enter_text x number
stop_text x (stops.Ack phase) = ack_text x phase
stop_text x (stops.Run func arg) = run_text x func
stop_text x (stops.Complete answer) = entry_text kind.End x
stop_text x (stops.Collect number answer) = collect_text x number
stop_text x _ = []

abbrev pub event_text : NamesValue → Told → Event → List ℕ
event_text n x (event.Call call) = call_text n x call
event_text n x (event.Stop stop) = stop_text x stop
event_text n x _ = []

-- these events, behind each the end of the flow of the call that it begins; the first calls are queued before the first event
abbrev pub events_text : NamesValue → List Told → List QueuedCall → List ℕ
events_text n [] left = []
events_text n (x ∷ xs) left = event_text n x x.event ++ flow_end x (begun x left) ++ events_text n xs (left_after x left)

-- the track of a CPU with its name, and those of this number of CPUs
unfoldable pub track_text : ℕ → List ℕ
track_text cpu = between (codes ",\n{\"pid\":0,\"tid\":") cpu (codes ",\"ph\":\"M\",\"name\":\"thread_name\",\"args\":{\"name\":\"CPU ")
    ++ between [] cpu (codes "\"}}")

abbrev pub tracks_text : ℕ → List ℕ
tracks_text zero = []
tracks_text (suc n) = tracks_text n ++ track_text n

-- what is in front of the tracks
unfoldable pub json_front : List ℕ
json_front =
    codes "{\"displayTimeUnit\":\"ns\",\"traceEvents\":[\n{\"name\":\"process_name\",\"ph\":\"M\",\"pid\":0,\"args\":{\"name\":\"ftrace\"}}"

unfoldable pub json_text : NamesValue → ℕ → List Told → List ℕ
json_text n cpus told = json_front ++ tracks_text cpus ++ events_text n told [] ++ codes "\n]}\n"

-- all events of what is read of a text
abbrev pub json_of : Result (KeptValue × TellingValue) Refusal → Result (List ℕ) Refusal
json_of reading = reading >>= λ r. Ok (json_text (record { addresses = r.1.addresses; functions = r.0.names }) r.1.cpus r.1.told)
