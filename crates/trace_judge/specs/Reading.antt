-- What the lines of a trace tell: which spellings are read as which event. A wrong word is seen first, then the fields are read from left
-- to right. So reading an event tells twice what is wrong: outside a wrong word or number of fields, inside what is wrong with its
-- other fields.
use Rattle.std.specs.Prelude.{ℕ, Bool, true, false, not, ◌&&◌, nat_lt, if◌then◌else◌, List, [], ◌∷◌, Result, Ok, Err, codes}
use Rattle.std.specs.Str.{bytes_eq}
use Rattle.smp_mask.specs.declared.error.Cause.{Cause}
use Rattle.smp_mask.specs.declared.error.Cause.TheVariants.{Word, Range}
use Rattle.smp_words.specs.declared.call.Class.{Class}
use Rattle.smp_words.specs.declared.call.Class.TheVariants.{Async}
use Rattle.smp_words.specs.declared.work.Kind.{Kind}
use Rattle.smp_script.specs.Commands.{are_whole}
use Rattle.smp_words.specs.FirstFault.{◌>>=◌}
use Rattle.smp_script.specs.Fields.{class_of, kind_of, mask_of, way_of, word16, word32, word64}
use Rattle.smp_script.specs.Numbers.{number_in, signed_of}
use Rattle.smp_script.specs.Requests.{switch_of}
use Rattle.trace_model.specs.Online.{is_online}
use Rattle.trace_model.specs.declared.event.Event.{Event}
use Rattle.trace_model.specs.declared.event.OtherNode.{OtherNode}
use Rattle.trace_model.specs.declared.event.OtherNode.TheVariants.{Wake, IrqWork}
use Rattle.trace_model.specs.declared.event.Event.TheVariants.{Call, Stop, Label}
use Rattle.trace_model.specs.declared.event.CallEvent.TheVariants as calls
use Rattle.trace_model.specs.declared.event.StopEvent.TheVariants as stops
use Rattle.trace_model.specs.declared.event.LabelEvent.TheVariants as labels
use Rattle.trace_model.specs.declared.stop.Task.{Task}
use Rattle.trace_model.specs.declared.without.Setting.{Setting}
use Rattle.trace_model.specs.declared.without.Without.{Without}

-- a name, of events that are told
abbrev pub is_told : List ℕ → List ℕ → Bool → Bool
is_told name word left_out = bytes_eq name word && not left_out

-- the event of a name that has no arguments
abbrev pub none_of : Without → List ℕ → Result Event Cause
none_of w name =
    if is_told name (codes "accept") w.interrupts then Ok (Call calls.Accept)
    else (if is_told name (codes "idle") w.interrupts then Ok (Call calls.Idle)
    else (if is_told name (codes "take") w.order then Ok (Call calls.Take)
    else (if is_told name (codes "gate") w.gate then Ok (Stop stops.Gate)
    else (if is_told name (codes "ungate") w.gate then Ok (Stop stops.Ungate)
    else (if is_told name (codes "off") w.switches then Ok (Stop stops.Off)
    else (if is_told name (codes "on") w.switches then Ok (Stop stops.On) else Err Word))))))

abbrev pub free_of : List ℕ → Result Event Cause
free_of text = word16 text >>= λ n. Ok (Call (calls.Free n))

abbrev pub unlock_of : List ℕ → Result Event Cause
unlock_of text = word16 text >>= λ n. Ok (Call (calls.Unlock n))

abbrev pub end_of : List ℕ → Result Event Cause
end_of text = word16 text >>= λ n. Ok (Call (calls.End n))

abbrev pub send_of : List ℕ → Result Event Cause
send_of text = word32 text >>= λ n. Ok (Call (calls.Send n))

abbrev pub enter_of : List ℕ → Result Event Cause
enter_of text = word32 text >>= λ n. Ok (Stop (stops.Enter n))

abbrev pub ack_of : List ℕ → Result Event Cause
ack_of text = number_in 1 4 text >>= λ n. Ok (Stop (stops.Ack n))

abbrev pub raise_of : List ℕ → Result Event Cause
raise_of text = number_in 2 5 text >>= λ n. Ok (Stop (stops.Raise n))

abbrev pub complete_of : List ℕ → Result Event Cause
complete_of text = signed_of text >>= λ n. Ok (Stop (stops.Complete n))

abbrev pub collect_of : List ℕ → Result Event Cause
collect_of text = signed_of text >>= λ n. Ok (Stop (stops.Collect 0 n))

-- the event of a name with one argument
abbrev pub one_of : Setting → List ℕ → List ℕ → Result (Result Event Cause) Cause
one_of u name a =
    if bytes_eq name (codes "free") then Ok (free_of a)
    else (if is_told name (codes "unlock") u.without.unlocks then Ok (unlock_of a)
    else (if bytes_eq name (codes "end") then Ok (end_of a)
    else (if is_told name (codes "send") u.without.interrupts then Ok (send_of a)
    else (if bytes_eq name (codes "enter") then Ok (enter_of a)
    else (if bytes_eq name (codes "ack") then Ok (ack_of a)
    else (if is_told name (codes "raise") u.without.raises then Ok (raise_of a)
    else (if bytes_eq name (codes "complete") then Ok (complete_of a)
    else (if is_told name (codes "collect") u.is_third then Ok (collect_of a) else Err Word))))))))

-- a number below a limit
abbrev pub below : ℕ → List ℕ → Result ℕ Cause
below limit text = word32 text >>= λ n. if nat_lt n limit then Ok n else Err Range

-- `NOP` or `JMP`: whether it is a jump
abbrev pub jump_of : List ℕ → Result Bool Cause
jump_of text = if bytes_eq text (codes "NOP") then Ok false else (if bytes_eq text (codes "JMP") then Ok true else Err Word)

abbrev pub run_of : List ℕ → List ℕ → Result Event Cause
run_of func arg = word64 func >>= λ f. word64 arg >>= λ a. Ok (Stop (stops.Run f a))

abbrev pub set_of : ℕ → List ℕ → List ℕ → Result Event Cause
set_of keys key count = below keys key >>= λ k. number_in 0 65535 count >>= λ n. Ok (Label (labels.Set k n))

abbrev pub turn_of : ℕ → List ℕ → Bool → Result Event Cause
turn_of sites site jumps = below sites site >>= λ i. Ok (Label (labels.Turn i jumps))

abbrev pub site_of : ℕ → List ℕ → Bool → Result Event Cause
site_of sites site jumps = below sites site >>= λ i. Ok (Label (labels.Site i jumps))

abbrev pub key_of : ℕ → List ℕ → Bool → Result Event Cause
key_of keys key on = below keys key >>= λ k. Ok (Label (labels.Key k on))

abbrev pub nudge_of : ℕ → List ℕ → Bool → Result Event Cause
nudge_of keys key up = below keys key >>= λ k. Ok (Label (labels.Nudge k up))

-- in version 3, the number of a stop and its result
abbrev pub collect_numbered : List ℕ → List ℕ → Result Event Cause
collect_numbered number answer = below 64 number >>= λ n. signed_of answer >>= λ v. Ok (Stop (stops.Collect n v))

-- the event of a name with two arguments
abbrev pub two_of : Setting → List ℕ → List ℕ → List ℕ → Result (Result Event Cause) Cause
two_of u name a b =
    if bytes_eq name (codes "run") then Ok (run_of a b)
    else (if bytes_eq name (codes "set") then Ok (set_of u.keys a b)
    else (if bytes_eq name (codes "turn") then (jump_of b >>= λ jumps. Ok (turn_of u.sites a jumps))
    else (if bytes_eq name (codes "site") then (jump_of b >>= λ jumps. Ok (site_of u.sites a jumps))
    else (if bytes_eq name (codes "key") then (switch_of b >>= λ on. Ok (key_of u.keys a on))
    else (if bytes_eq name (codes "nudge") then (way_of b >>= λ up. Ok (nudge_of u.keys a up))
    else (if is_told name (codes "collect") (not u.is_third) then Ok (collect_numbered a b) else Err Word))))))

abbrev pub begin_of : List ℕ → List ℕ → List ℕ → Result Event Cause
begin_of id func info = word16 id >>= λ r. word64 func >>= λ f. word64 info >>= λ i. Ok (Call (calls.Begin r f i))

-- the event of a name with three arguments
abbrev pub three_of : List ℕ → List ℕ → List ℕ → List ℕ → Result (Result Event Cause) Cause
three_of name a b c = if bytes_eq name (codes "begin") then Ok (begin_of a b c) else Err Word

abbrev pub queue_of : List ℕ → List ℕ → Class → List ℕ → List ℕ → Result Event Cause
queue_of id to class func info =
    word16 id >>= λ r. word32 to >>= λ d. word64 func >>= λ f. word64 info >>= λ i. Ok (Call (calls.Queue r d class f i))

abbrev pub task_of : Kind → List ℕ → List ℕ → List ℕ → List ℕ → Result Task Cause
task_of kind mask active func arg =
    mask_of 32 mask >>= λ m. mask_of 32 active >>= λ a. word64 func >>= λ f. word64 arg >>= λ x.
    Ok (record { kind = kind; mask = m; active = a; func = f; arg = x })

-- a class may be unknown in version 3, where neither the order of queues nor unlocks are told: the call is judged as an ASYNC one
abbrev pub may_be_unknown : Setting → Bool
may_be_unknown u = u.is_third && u.without.order && u.without.unlocks

abbrev pub class_in : Setting → List ℕ → Result Class Cause
class_in u text = if bytes_eq text (codes "unknown") && may_be_unknown u then Ok Async else class_of text

-- `wake` or `irqwork`: what joins a queue and is no call
abbrev pub node_of : List ℕ → Result OtherNode Cause
node_of text = if bytes_eq text (codes "wake") then Ok Wake else (if bytes_eq text (codes "irqwork") then Ok IrqWork else Err Word)

abbrev pub other_of : List ℕ → OtherNode → Result Event Cause
other_of to node = word32 to >>= λ d. Ok (Call (calls.QueueOther d node))

-- in version 3, D and what joins its queue that is no call
abbrev pub other_line : Bool → List ℕ → List ℕ → Result (Result Event Cause) Cause
other_line is_third to node = if is_third then (node_of node >>= λ n. Ok (other_of to n)) else Err Word

-- R D CLASS FUNC INFO
abbrev pub call_line : Setting → List (List ℕ) → Result (Result Event Cause) Cause
call_line u (id ∷ to ∷ class ∷ func ∷ info ∷ []) = class_in u class >>= λ c. Ok (queue_of id to c func info)
call_line u _ = Err Word

-- `queue`, and then these, or D and what is no call
abbrev pub queue_line : Setting → List (List ℕ) → Result (Result Event Cause) Cause
queue_line u (to ∷ node ∷ []) = other_line u.is_third to node
queue_line u arguments = call_line u arguments

-- KIND MASK ACTIVE FUNC ARG
abbrev pub task_line : List (List ℕ) → Result (Result Task Cause) Cause
task_line (kind ∷ mask ∷ active ∷ func ∷ arg ∷ []) = kind_of kind >>= λ k. Ok (task_of k mask active func arg)
task_line _ = Err Word

-- `open`, and then these; in version 3 the number of the stop comes first
abbrev pub open_as : ℕ → Result Task Cause → Result Event Cause
open_as number task = task >>= λ t. Ok (Stop (stops.Open number t))

abbrev pub numbered_open : List ℕ → Result Task Cause → Result Event Cause
numbered_open number task = below 64 number >>= λ n. open_as n task

abbrev pub open_numbered : List (List ℕ) → Result (Result Event Cause) Cause
open_numbered [] = Err Word
open_numbered (number ∷ rest) = task_line rest >>= λ task. Ok (numbered_open number task)

abbrev pub open_line : Bool → List (List ℕ) → Result (Result Event Cause) Cause
open_line true arguments = open_numbered arguments
open_line false arguments = task_line arguments >>= λ task. Ok (open_as 0 task)

-- the event of a name with at most three arguments
abbrev pub short_of : Setting → List ℕ → List (List ℕ) → Result (Result Event Cause) Cause
short_of u name [] = none_of u.without name >>= λ event. Ok (Ok event)
short_of u name (a ∷ []) = one_of u name a
short_of u name (a ∷ b ∷ []) = two_of u name a b
short_of u name (a ∷ b ∷ c ∷ []) = three_of name a b c
short_of u name _ = Err Word

-- the event of a name and its arguments
unfoldable pub named_of : Setting → List ℕ → List (List ℕ) → Result (Result Event Cause) Cause
named_of u name arguments =
    if bytes_eq name (codes "queue") then queue_line u arguments
    else (if bytes_eq name (codes "open") then open_line u.is_third arguments else short_of u name arguments)

-- the CPU of the line, which is one that is online
abbrev pub online_of : Setting → List ℕ → Result ℕ Cause
online_of u cpu = word32 cpu >>= λ c. if is_online u c then Ok c else Err Range

-- CPUs below 32 alone are in stops, and have keys and sites
abbrev pub is_low : ℕ → Event → Bool
is_low cpu (Call call) = true
is_low cpu (Stop stops.Gate) = true
is_low cpu (Stop stops.Ungate) = true
is_low cpu (Stop (stops.Open number task)) = true
is_low cpu (Stop (stops.Collect number answer)) = true
is_low cpu _ = nat_lt cpu 32

-- where stops have no numbers of their own, each has that of the CPU that opens it
abbrev pub own_stop : ℕ → Event → Event
own_stop cpu (Stop (stops.Open number task)) = Stop (stops.Open cpu task)
own_stop cpu (Stop (stops.Collect number answer)) = Stop (stops.Collect cpu answer)
own_stop cpu event = event

abbrev pub numbered : Bool → ℕ → Event → Event
numbered true cpu event = event
numbered false cpu event = own_stop cpu event

abbrev pub with_cpu_of : Setting → List ℕ → Result Event Cause → Result (ℕ × Event) Cause
with_cpu_of u cpu read =
    online_of u cpu >>= λ c. read >>= λ event. if is_low c event then Ok (c, numbered u.is_third c event) else Err Range

-- the event that the fields of a line tell
abbrev pub event_of : Setting → List (List ℕ) → Result (ℕ × Event) Cause
event_of u (cpu ∷ name ∷ arguments) = named_of u name arguments >>= with_cpu_of u cpu
event_of u _ = Err Word

-- the same where no field is empty
abbrev pub whole_event : Setting → List (List ℕ) → Result (ℕ × Event) Cause
whole_event u fields = if are_whole fields then event_of u fields else Err Word
