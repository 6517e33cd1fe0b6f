-- The lines of events, as a trace has them.
use Rattle.std.specs.Prelude.{ℕ, List, [], ◌∷◌, ◌++◌, codes}
use Rattle.std.specs.Fmt.{decimal, signed_decimal}
use Rattle.std.specs.List.{flat_map}
use Rattle.trace_model.specs.declared.event.CallEvent.{CallEvent}
use Rattle.trace_model.specs.declared.event.CallEvent.TheVariants as calls
use Rattle.trace_model.specs.declared.event.Event.{Event}
use Rattle.trace_model.specs.declared.event.Event.TheVariants as event
use Rattle.trace_model.specs.declared.event.OtherNode.{OtherNode}
use Rattle.trace_model.specs.declared.event.OtherNode.TheVariants as node
use Rattle.trace_model.specs.declared.event.LabelEvent.{LabelEvent}
use Rattle.trace_model.specs.declared.event.LabelEvent.TheVariants as labels
use Rattle.trace_model.specs.declared.event.StopEvent.{StopEvent}
use Rattle.trace_model.specs.declared.event.StopEvent.TheVariants as stops
use Rattle.trace_model.specs.declared.stop.Task.{Task}
use Rattle.smp_words.specs.declared.call.Class.{Class}
use Rattle.smp_script.specs.Printed.{site_text}
use Rattle.smp_script.specs.Spelling.{class_text, kind_text, mask_text, switch_text, way_text}
use Rattle.trace_events.specs.StepEvents.{events_in}
use Rattle.trace_events.specs.declared.step_events.StepEvents.{StepEvents}

-- `queue R D CLASS FUNC INFO`
abbrev pub queue_text : ℕ → ℕ → Class → ℕ → ℕ → List ℕ
queue_text id to class func info =
    codes "queue " ++ decimal id ++ codes " " ++ decimal to ++ codes " " ++ class_text class ++ codes " " ++ decimal func ++ codes " " ++ decimal info

-- the name of what joins a queue and is no call
abbrev pub node_text : OtherNode → List ℕ
node_text node.Wake = codes "wake"
node_text node.IrqWork = codes "irqwork"

-- an event of calls
abbrev pub call_text : CallEvent → List ℕ
call_text (calls.Queue id to class func info) = queue_text id to class func info
call_text (calls.QueueOther to node) = codes "queue " ++ decimal to ++ codes " " ++ node_text node
call_text (calls.Free id) = codes "free " ++ decimal id
call_text (calls.Send to) = codes "send " ++ decimal to
call_text calls.Accept = codes "accept"
call_text calls.Idle = codes "idle"
call_text calls.Take = codes "take"
call_text (calls.Unlock id) = codes "unlock " ++ decimal id
call_text (calls.Begin id func info) = codes "begin " ++ decimal id ++ codes " " ++ decimal func ++ codes " " ++ decimal info
call_text (calls.End id) = codes "end " ++ decimal id

-- `KIND MASK ACTIVE FUNC ARG`
abbrev pub task_text : Task → List ℕ
task_text t =
    kind_text t.kind ++ codes " " ++ mask_text t.mask ++ codes " " ++ mask_text t.active ++ codes " " ++ decimal t.func ++ codes " " ++ decimal t.arg

-- an event of stops, without the number of a stop that is its CPU's
abbrev pub stop_text : StopEvent → List ℕ
stop_text stops.Gate = codes "gate"
stop_text stops.Ungate = codes "ungate"
stop_text (stops.Open number task) = codes "open " ++ task_text task
stop_text (stops.Enter number) = codes "enter " ++ decimal number
stop_text (stops.Ack phase) = codes "ack " ++ decimal phase
stop_text (stops.Raise phase) = codes "raise " ++ decimal phase
stop_text stops.Off = codes "off"
stop_text stops.On = codes "on"
stop_text (stops.Run func arg) = codes "run " ++ decimal func ++ codes " " ++ decimal arg
stop_text (stops.Complete answer) = codes "complete " ++ signed_decimal answer
stop_text (stops.Collect number answer) = codes "collect " ++ signed_decimal answer

-- a number and a name behind the name of an event
abbrev pub named_text : List ℕ → ℕ → List ℕ → List ℕ
named_text event number name = event ++ codes " " ++ decimal number ++ codes " " ++ name

-- an event of keys and sites
abbrev pub label_text : LabelEvent → List ℕ
label_text (labels.Set key count) = codes "set " ++ decimal key ++ codes " " ++ decimal count
label_text (labels.Turn site jumps) = named_text (codes "turn") site (site_text jumps)
label_text (labels.Key key on) = named_text (codes "key") key (switch_text on)
label_text (labels.Site site jumps) = named_text (codes "site") site (site_text jumps)
label_text (labels.Nudge key up) = named_text (codes "nudge") key (way_text up)

abbrev pub event_text : Event → List ℕ
event_text (event.Call call) = call_text call
event_text (event.Stop stop) = stop_text stop
event_text (event.Label label) = label_text label

-- an event as in version 3, where stops have numbers of their own
abbrev pub numbered_text : Event → List ℕ
numbered_text (event.Stop (stops.Open number task)) = codes "open " ++ decimal number ++ codes " " ++ task_text task
numbered_text (event.Stop (stops.Collect number answer)) = codes "collect " ++ decimal number ++ codes " " ++ signed_decimal answer
numbered_text e = event_text e

abbrev pub numbered_line : ℕ → Event → List ℕ
numbered_line cpu e = decimal cpu ++ codes " " ++ numbered_text e ++ 10 ∷ []

-- the line of an event of a CPU
abbrev pub line_text : ℕ → Event → List ℕ
line_text cpu e = decimal cpu ++ codes " " ++ event_text e ++ 10 ∷ []

-- the lines of what a step of a CPU tells
abbrev pub told_text : ℕ → StepEvents → List ℕ
told_text cpu told = flat_map (line_text cpu) (events_in told)
