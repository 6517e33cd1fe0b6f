-- What is printed of a trace.
use Rattle.std.specs.Prelude.{ℕ, zero, suc, ◌+◌, Bool, true, false, ◌&&◌, ◌==◌, if◌then◌else◌, List, [], ◌∷◌, ◌++◌, Option, Some, None, codes}
use Rattle.std.specs.Fmt.{decimal, signed_decimal}
use Rattle.smp_script.specs.Printed.{site_text}
use Rattle.smp_script.specs.Spelling.{kind_text, mask_text, switch_text}
use Rattle.trace_model.specs.declared.event.CallEvent.{CallEvent}
use Rattle.trace_model.specs.declared.event.CallEvent.TheVariants as calls
use Rattle.trace_model.specs.declared.event.StopEvent.{StopEvent}
use Rattle.trace_model.specs.declared.event.StopEvent.TheVariants as stops
use Rattle.trace_model.specs.declared.event.LabelEvent.{LabelEvent}
use Rattle.trace_model.specs.declared.event.LabelEvent.TheVariants as labels
use Rattle.trace_model.specs.declared.event.Event.{Event}
use Rattle.trace_model.specs.declared.event.Event.TheVariants as event
use Rattle.trace_model.specs.declared.reason.Reason.{Reason}
use Rattle.trace_model.specs.declared.reason.Reason.TheVariants as reason
use Rattle.trace_model.specs.declared.stop.Stop.{Stop}
use Rattle.trace_model.specs.Ending.{busy_of, has_nodes, heads_of, locked_of, owed_by, queue_length, queued_by, ran_of, waiting}
use Rattle.trace_model.specs.State.{StateValue, cpu_at, stop_at}

-- the name of an event
abbrev pub call_name : CallEvent → List ℕ
call_name (calls.Queue id to class func info) = codes "queue"
call_name (calls.QueueOther to node) = codes "queue"
call_name (calls.Free id) = codes "free"
call_name (calls.Send to) = codes "send"
call_name calls.Accept = codes "accept"
call_name calls.Idle = codes "idle"
call_name calls.Take = codes "take"
call_name (calls.Unlock id) = codes "unlock"
call_name (calls.Begin id func info) = codes "begin"
call_name (calls.End id) = codes "end"

abbrev pub stop_name : StopEvent → List ℕ
stop_name stops.Gate = codes "gate"
stop_name stops.Ungate = codes "ungate"
stop_name (stops.Open number task) = codes "open"
stop_name (stops.Enter source) = codes "enter"
stop_name (stops.Ack phase) = codes "ack"
stop_name (stops.Raise phase) = codes "raise"
stop_name stops.Off = codes "off"
stop_name stops.On = codes "on"
stop_name (stops.Run func arg) = codes "run"
stop_name (stops.Complete answer) = codes "complete"
stop_name (stops.Collect number answer) = codes "collect"

abbrev pub label_name : LabelEvent → List ℕ
label_name (labels.Set key count) = codes "set"
label_name (labels.Turn site jumps) = codes "turn"
label_name (labels.Key key on) = codes "key"
label_name (labels.Site site jumps) = codes "site"
label_name (labels.Nudge key up) = codes "nudge"

abbrev pub event_name : Event → List ℕ
event_name (event.Call call) = call_name call
event_name (event.Stop stop) = stop_name stop
event_name (event.Label label) = label_name label

-- why an event is none
abbrev pub reason_text : Reason → List ℕ
reason_text (reason.RecordFree id) = codes "record " ++ decimal id ++ codes " is free"
reason_text (reason.RecordQueued id cpu) = codes "record " ++ decimal id ++ codes " is queued for CPU " ++ decimal cpu
reason_text (reason.RecordInBatch id cpu) = codes "record " ++ decimal id ++ codes " is in the batch of CPU " ++ decimal cpu
reason_text (reason.RecordRuns id cpu) = codes "record " ++ decimal id ++ codes " runs on CPU " ++ decimal cpu
reason_text (reason.NotOnline cpu) = codes "CPU " ++ decimal cpu ++ codes " is not online"
reason_text (reason.IsCaller cpu) = codes "CPU " ++ decimal cpu ++ codes " is the caller"
reason_text (reason.ComesFirst id) = codes "record " ++ decimal id ++ codes " comes first"
reason_text (reason.IsLocked id) = codes "record " ++ decimal id ++ codes " is locked"
reason_text (reason.NotBegun id) = codes "the call of record " ++ decimal id ++ codes " has not begun"
reason_text (reason.NotOver id) = codes "the call of record " ++ decimal id ++ codes " is not over"
reason_text reason.NoCallRuns = codes "no call runs"
reason_text (reason.CallIs func info) = codes "its call is " ++ decimal func ++ codes " " ++ decimal info
reason_text reason.NoInterruptPending = codes "no interrupt is pending"
reason_text reason.InterruptPending = codes "an interrupt is pending"
reason_text reason.NoInterruptAccepted = codes "no interrupt is accepted"
reason_text reason.InterruptAccepted = codes "an interrupt is accepted"
reason_text reason.InterruptsOff = codes "interrupts are off"
reason_text reason.InterruptsOn = codes "interrupts are on"
reason_text (reason.GateOf cpu) = codes "the gate is of CPU " ++ decimal cpu
reason_text reason.GateOfNone = codes "the gate is of no CPU"
reason_text reason.NoSuchWork = codes "there is no such work"
reason_text (reason.StopOpen source) = codes "stop " ++ decimal source ++ codes " is open"
reason_text (reason.StopNotOpen source) = codes "stop " ++ decimal source ++ codes " is not open"
reason_text (reason.IsInStop cpu source) = codes "CPU " ++ decimal cpu ++ codes " is in stop " ++ decimal source
reason_text (reason.NotCalled cpu) = codes "CPU " ++ decimal cpu ++ codes " is not called"
reason_text (reason.InNoStop cpu) = codes "CPU " ++ decimal cpu ++ codes " is in no stop"
reason_text (reason.StopIsOf source kind) = codes "stop " ++ decimal source ++ codes " is of kind " ++ kind_text kind
reason_text (reason.NotAcknowledged cpu phase) = codes "CPU " ++ decimal cpu ++ codes " has not acknowledged " ++ decimal phase
reason_text (reason.Acknowledged cpu phase) = codes "CPU " ++ decimal cpu ++ codes " has acknowledged " ++ decimal phase
reason_text (reason.PhaseIs phase) = codes "the phase is " ++ decimal phase
reason_text (reason.AcknowledgedLast cpu) = codes "CPU " ++ decimal cpu ++ codes " acknowledged last"
reason_text (reason.NotActive cpu) = codes "CPU " ++ decimal cpu ++ codes " is not active"
reason_text reason.FunctionHasRun = codes "the function has run"
reason_text reason.FunctionHasNotRun = codes "the function has not run"
reason_text (reason.AnswerIs answer) = codes "its answer is " ++ signed_decimal answer
reason_text (reason.NotCompleted cpu) = codes "CPU " ++ decimal cpu ++ codes " has not completed"
reason_text (reason.AnswersDoNotGive answer) = codes "the answers do not give " ++ signed_decimal answer
reason_text (reason.KeyToBe key count) = codes "key " ++ decimal key ++ codes " is to be " ++ decimal count
reason_text (reason.SiteToBe site jumps) = codes "site " ++ decimal site ++ codes " is to be " ++ site_text jumps
reason_text reason.PatchOver = codes "the patch is over"
reason_text (reason.KeyIs key on) = codes "key " ++ decimal key ++ codes " is " ++ switch_text on
reason_text (reason.SiteIs site jumps) = codes "site " ++ decimal site ++ codes " is " ++ site_text jumps
reason_text (reason.CountIs key count) = codes "the count of key " ++ decimal key ++ codes " is " ++ decimal count

-- the line of an event that no run has
abbrev pub broken_text : ℕ → ℕ → Event → Reason → List ℕ
broken_text line cpu event why =
    codes "line " ++ decimal line ++ codes ": CPU " ++ decimal cpu ++ codes " " ++ event_name event ++ codes ": " ++ reason_text why ++ 10 ∷ []

-- the texts of the numbers below n, ascending
unfoldable pub texts_below : (ℕ → List ℕ) → ℕ → List ℕ
texts_below text zero = []
texts_below text (suc n) = texts_below text n ++ text n

-- a pair that has a call: how many calls were queued, and how many have ended
abbrev pub tally_text : StateValue → ℕ → ℕ → List ℕ
tally_text s source to =
    if queued_by s source to == 0 then codes ""
    else codes "tally " ++ decimal source ++ codes " " ++ decimal to ++ codes " " ++ decimal (queued_by s source to) ++
    codes " " ++ decimal (ran_of s source to) ++ 10 ∷ []

unfoldable pub tallies_of : StateValue → ℕ → List ℕ
tallies_of s source = texts_below (tally_text s source) 512

-- why a queue is not lost: its CPU has accepted an interrupt, one is pending, or a CPU owes one
abbrev pub owed_text : Option ℕ → List ℕ
owed_text None = codes ""
owed_text (Some source) = codes " owed " ++ decimal source

abbrev pub why_text : Bool → Bool → Bool → Option ℕ → List ℕ
why_text true accepted pending owed = codes ""
why_text false true pending owed = codes " accepted"
why_text false false true owed = codes " pending"
why_text false false false owed = owed_text owed

-- a queue that is not empty, with its number of calls
abbrev pub queue_text : StateValue → ℕ → List ℕ
queue_text s cpu =
    if has_nodes (cpu_at s cpu) then
    codes "queue " ++ decimal cpu ++ codes " " ++ decimal (queue_length s cpu) ++
    why_text s.setting.without.interrupts (cpu_at s cpu).accepted (cpu_at s cpu).pending (owed_by s cpu) ++ 10 ∷ []
    else codes ""

-- a stop that is open: its phase, and those for whom it waits
abbrev pub open_text : ℕ → Stop → List ℕ
open_text number stop =
    if stop.is_open then
    codes "stop " ++ decimal number ++ codes " " ++ kind_text stop.task.kind ++ codes " " ++ decimal stop.phase ++
    codes " " ++ mask_text (waiting stop) ++ 10 ∷ []
    else codes ""

abbrev pub stop_text : StateValue → ℕ → List ℕ
stop_text s number = open_text number (stop_at s number)

-- how many queues are not empty, how many records are not free, and how many CPUs handle; `drained` where none is
abbrev pub left_text : ℕ → ℕ → ℕ → List ℕ
left_text heads locked busy =
    if (heads == 0) && (locked == 0) && (busy == 0) then codes "drained" ++ 10 ∷ []
    else codes "left " ++ decimal heads ++ codes " " ++ decimal locked ++ codes " " ++ decimal busy ++ 10 ∷ []

-- what is printed of a lawful trace with that number of events that ends in this state
abbrev pub lawful_text : ℕ → StateValue → List ℕ
lawful_text events s =
    codes "lawful " ++ decimal events ++ codes " events\n" ++ texts_below (tallies_of s) 512 ++ texts_below (queue_text s) 512 ++ texts_below (stop_text s) 64
    ++ left_text (heads_of s) (locked_of s) (busy_of s)
