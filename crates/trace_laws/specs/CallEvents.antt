-- What events tell of the calls of one CPU.
use Rattle.std.specs.Prelude.{ℕ, Bool, true, false, ◌==◌, List, [], ◌∷◌, ◌++◌, filter}
use Rattle.smp_words.specs.declared.call.Class.{Class}
use Rattle.smp_words.specs.declared.call.Class.TheVariants.{Sync, Async}
use Rattle.trace_model.specs.declared.call.Call.{Call}
use Rattle.trace_model.specs.declared.event.CallEvent.TheVariants as calls
use Rattle.trace_model.specs.declared.event.Event.{Event}
use Rattle.trace_model.specs.declared.event.Event.TheVariants as event

-- a call, as its `begin` tells it
pub record Begin : Type 0 where
  pub id : ℕ
  pub func : ℕ
  pub info : ℕ

abbrev pub begin_of : Call → Begin
begin_of call = record { id = call.id; func = call.func; info = call.info }

abbrev pub id_of : Call → ℕ
id_of call = call.id

abbrev pub only_if : {X : Type 0} → Bool → X → List X
only_if true x = x ∷ []
only_if false x = []

-- the call that an event queues for a CPU
abbrev pub queued_now : ℕ → ℕ × Event → List Call
queued_now cpu (source, event.Call (calls.Queue id to class func info)) =
    only_if (to == cpu) (record { source = source; id = id; class = class; func = func; info = info })
queued_now cpu _ = []

-- the CPU for which an event of this CPU queues a call
abbrev pub notes_now : ℕ → ℕ × Event → List ℕ
notes_now cpu (source, event.Call (calls.Queue id to class func info)) = only_if (source == cpu) to
notes_now cpu _ = []

-- the CPU takes its queue
abbrev pub takes_now : ℕ → ℕ × Event → Bool
takes_now cpu (actor, event.Call calls.Take) = actor == cpu
takes_now cpu _ = false

-- the function that the CPU enters
abbrev pub begins_now : ℕ → ℕ × Event → List Begin
begins_now cpu (actor, event.Call (calls.Begin id func info)) = only_if (actor == cpu) (record { id = id; func = func; info = info })
begins_now cpu _ = []

-- the record whose call's function returns on the CPU
abbrev pub ends_now : ℕ → ℕ × Event → List ℕ
ends_now cpu (actor, event.Call (calls.End id)) = only_if (actor == cpu) id
ends_now cpu _ = []

-- the calls that events queue for a CPU, as they are queued
unfoldable pub queued : ℕ → List (ℕ × Event) → List Call
queued cpu [] = []
queued cpu (e ∷ es) = queued_now cpu e ++ queued cpu es

-- the CPUs for which events of this CPU queue calls
unfoldable pub notes : ℕ → List (ℕ × Event) → List ℕ
notes cpu [] = []
notes cpu (e ∷ es) = notes_now cpu e ++ notes cpu es

-- what the CPU's `begin` events tell, in their order
unfoldable pub begins : ℕ → List (ℕ × Event) → List Begin
begins cpu [] = []
begins cpu (e ∷ es) = begins_now cpu e ++ begins cpu es

-- the records of its `end` events, in their order
unfoldable pub ends : ℕ → List (ℕ × Event) → List ℕ
ends cpu [] = []
ends cpu (e ∷ es) = ends_now cpu e ++ ends cpu es

-- a queue after a call was queued, or after it was taken
abbrev pub queue_next : Bool → List Call → List Call → List Call
queue_next true queue more = []
queue_next false queue more = queue ++ more

-- two classes are the same
abbrev pub same_class : Class → Class → Bool
same_class Sync Sync = true
same_class Async Async = true
same_class _ _ = false

-- the calls of a class, as they are in a list
abbrev pub calls_of : Class → List Call → List Call
calls_of class calls = filter (λ call. same_class class call.class) calls

-- the calls that are taken now, in the order in which they are to run: SYNC ones first, each class as it was queued
abbrev pub taken_now : Bool → List Call → List Call
taken_now true queue = calls_of Sync queue ++ calls_of Async queue
taken_now false queue = []

-- the calls that the CPU takes: at each `take` those that were queued since the one before, SYNC ones first
unfoldable pub taken_from : ℕ → List Call → List (ℕ × Event) → List Call
taken_from cpu queue [] = []
taken_from cpu queue (e ∷ es) =
    taken_now (takes_now cpu e) queue ++ taken_from cpu (queue_next (takes_now cpu e) queue (queued_now cpu e)) es

-- the calls that were queued since the CPU's last `take`
unfoldable pub queue_from : ℕ → List Call → List (ℕ × Event) → List Call
queue_from cpu queue [] = queue
queue_from cpu queue (e ∷ es) = queue_from cpu (queue_next (takes_now cpu e) queue (queued_now cpu e)) es
