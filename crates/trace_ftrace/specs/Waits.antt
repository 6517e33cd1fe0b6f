-- The calls that wait for long.
use Rattle.std.specs.Prelude.{ℕ, ◌+◌, ◌-◌, Bool, false, ◌==◌, ◌&&◌, nat_lt, if◌then◌else◌, List, [], ◌∷◌, ◌++◌, remove}
use Rattle.std.specs.Prelude.{Option, Some, None, codes}
use Rattle.std.specs.Fmt.{decimal}
use Rattle.trace_model.specs.declared.event.CallEvent.TheVariants as calls
use Rattle.trace_model.specs.declared.event.Event.{Event}
use Rattle.trace_model.specs.declared.event.Event.TheVariants as event
use Rattle.trace_ftrace.specs.Names.{NamesValue, csd_text, function_text}
use Rattle.trace_ftrace.specs.declared.told.Told.{Told}
use Rattle.trace_ftrace.specs.declared.waits.FoundCall.{FoundCall}
use Rattle.trace_ftrace.specs.declared.waits.QueuedCall.{QueuedCall}
use Rattle.trace_ftrace.specs.declared.waits.WaitingCall.{WaitingCall}

-- a record is queued
abbrev pub is_queue : ℕ → Event → Bool
is_queue id (event.Call (calls.Queue queued to class func info)) = queued == id
is_queue id _ = false

-- the first of these calls that is of this record and CPU, where the first of all has this place
abbrev pub found_from : ℕ → ℕ → ℕ → List QueuedCall → Option FoundCall
found_from i id cpu [] = None
found_from i id cpu (c ∷ cs) =
    if c.id == id && c.to == cpu then Some (record { place = i; call = c }) else found_from (i + 1) id cpu cs

-- the call that an event queues
abbrev pub queued_by : Told → Event → Option QueuedCall
queued_by x (event.Call (calls.Queue id to class func info)) =
    Some (record { line = x.line; time = x.time; id = id; to = to; func = func })
queued_by x _ = None

unfoldable pub queued : Told → Option QueuedCall
queued x = queued_by x x.event

-- the call that an event begins, of these that are queued and not begun: the first of its record and CPU
abbrev pub begun_by : ℕ → Event → List QueuedCall → Option FoundCall
begun_by cpu (event.Call (calls.Begin id func info)) left = found_from 0 id cpu left
begun_by cpu _ left = None

unfoldable pub begun : Told → List QueuedCall → Option FoundCall
begun x left = begun_by x.cpu x.event left

-- those that are queued and not begun behind an event
unfoldable pub with_queued : Option QueuedCall → List QueuedCall → List QueuedCall
with_queued None left = left
with_queued (Some c) left = left ++ c ∷ []

abbrev pub left_behind : Told → Option FoundCall → List QueuedCall → List QueuedCall
left_behind x None left = with_queued (queued x) left
left_behind x (Some f) left = remove left f.place

unfoldable pub left_after : Told → List QueuedCall → List QueuedCall
left_after x left = left_behind x (begun x left) left

-- a call that is begun at this time, where it has waited for more than that
unfoldable pub late : ℕ → ℕ → QueuedCall → Option WaitingCall
late slow time c = let waited = time - c.time in if nat_lt slow waited then Some (record { call = c; waited = Some waited }) else None

abbrev pub late_of : ℕ → ℕ → Option FoundCall → Option WaitingCall
late_of slow time None = None
late_of slow time (Some f) = late slow time f.call

unfoldable pub late_at : ℕ → Told → List QueuedCall → Option WaitingCall
late_at slow x left = late_of slow x.time (begun x left)

-- a call that waits, by its line, the address of its record and its function
unfoldable pub waited_text : Option ℕ → List ℕ
waited_text None = codes "not begun: "
waited_text (Some time) = codes "waited " ++ decimal time ++ codes ": "

unfoldable pub call_text : NamesValue → QueuedCall → List ℕ
call_text n c = codes "line " ++ decimal c.line ++ codes ": " ++ csd_text n c.id ++ codes ", " ++ function_text n c.func ++ 10 ∷ []

abbrev pub waiting_text : NamesValue → Option WaitingCall → List ℕ
waiting_text n None = []
waiting_text n (Some w) = waited_text w.waited ++ call_text n w.call

-- calls that are not begun
abbrev pub left_text : NamesValue → List QueuedCall → List ℕ
left_text n [] = []
left_text n (c ∷ cs) = waiting_text n (Some (record { call = c; waited = None })) ++ left_text n cs

-- the calls of these events that waited for more than this time, as they are begun, and then those that are not begun; the first
-- calls are queued before the first event
abbrev pub waits_text : NamesValue → ℕ → List Told → List QueuedCall → List ℕ
waits_text n slow [] left = left_text n left
waits_text n slow (x ∷ xs) left = waiting_text n (late_at slow x left) ++ waits_text n slow xs (left_after x left)
