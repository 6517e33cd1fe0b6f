-- The steps of `handle`, one after another: a CPU reverses the chain of its batch in place, and walks through it twice.
use Rattle.std.specs.Prelude.{ℕ, ◌+◌, ◌-◌, ◌%◌, ◌^◌, ◌<◌, ◌≤◌, ◌==◌, if◌then◌else◌, Option, Some, None}
use Rattle.smp_words.specs.Size.{owner}
use Rattle.smp_words.specs.Flags.{class_of}
use Rattle.smp_call_steps.specs.Posts.{go_on, ends}
use Rattle.smp_words.specs.declared.size.TheConstants.{MOST_CALLS}
use Rattle.smp_call_steps.specs.Names.{Call, Class, Sync, Async, Head, Intr, Hand, Ran, Flags, Func, Info, Next, Access, Load, Store, Swap, Walk, HandleStage}
use Rattle.smp_call_steps.specs.Names.{CallOutcome, Handle}
use Rattle.smp_call_steps.specs.Names.note
use Rattle.smp_call_steps.specs.Names.handle

-- how many calls a drain has reversed of its batch
pub record DrainValue : Type 0 where
  pub calls : ℕ

-- a drain that has reversed none
abbrev pub no_drain : DrainValue
no_drain = record { calls = 0 }

-- the link to a record, 0 where there is none
abbrev pub link_to : Option ℕ → ℕ
link_to None = 0
link_to (Some id) = id + 1

-- the record to which a link leads, none where it is 0
abbrev pub record_at : ℕ → Option ℕ
record_at link = if link == 0 then None else Some (link - 1)

-- what handle does next; ran is the number in the word that counts the calls from this call's source
abbrev pub handle_access : ℕ → HandleStage → ℕ → Access
handle_access me handle.Enter ran = Store (Hand me) 1
handle_access me handle.Accept ran = Swap (Intr me) 0
handle_access me handle.LeaveIdle ran = Store (Hand me) 0
handle_access me handle.Take ran = Swap (Head me) 0
handle_access me (handle.ReverseLoad newer id) ran = Load (Next id)
handle_access me (handle.ReverseStore newer id older) ran = Store (Next id) (link_to newer)
handle_access me (handle.LoadNext walk id) ran = Load (Next id)
handle_access me (handle.LoadFlags walk id next) ran = Load (Flags id)
handle_access me (handle.LoadFunc walk id next) ran = Load (Func id)
handle_access me (handle.LoadInfo walk id next func) ran = Load (Info id)
handle_access me (handle.Unlink walk last call next) ran = Store (Next last) (link_to next)
handle_access me (handle.BeginSync walk call next) ran = Store (Hand me) (call.id + 2)
handle_access me (handle.CountSync walk call next) ran = Store (Ran me (owner call.id)) ((ran + 1) % 2 ^ 64)
handle_access me (handle.EndSync walk call next) ran = Store (Flags call.id) 0
handle_access me (handle.AsyncNext id) ran = Load (Next id)
handle_access me (handle.AsyncFunc id next) ran = Load (Func id)
handle_access me (handle.AsyncInfo id next func) ran = Load (Info id)
handle_access me (handle.BeginAsync call next) ran = Store (Flags call.id) 0
handle_access me (handle.CountAsync call next) ran = Store (Ran me (owner call.id)) ((ran + 1) % 2 ^ 64)
handle_access me handle.Leave ran = Store (Hand me) 0

-- the source of the call that a stage of handle counts, 0 where it counts none
abbrev pub source_at : HandleStage → ℕ
source_at (handle.CountSync walk call next) = owner call.id
source_at (handle.CountAsync call next) = owner call.id
source_at _ = 0

-- handle goes on with this stage, and the step has no note
abbrev pub handle_goes : HandleStage → CallOutcome
handle_goes stage = go_on (Handle stage)

-- the function of this call runs after the step
abbrev pub calling : HandleStage → Call → CallOutcome
calling next call = record { next = Some (Handle next); note = Some (note.Call (owner call.id) call.func call.info) }

-- the second pass goes on with this record, or all has run
abbrev pub second_on : Option ℕ → HandleStage
second_on None = handle.Leave
second_on (Some id) = handle.AsyncNext id

-- the first pass goes on with this record, or the second begins
abbrev pub first_on : Walk → Option ℕ → HandleStage
first_on walk None = second_on walk.first
first_on walk (Some id) = handle.LoadNext walk id

-- the reversal goes on with the record before this one, or the first pass begins here
abbrev pub reverse_on : Option ℕ → Option ℕ → HandleStage
reverse_on here None = first_on (record { first = here; last = None }) here
reverse_on here (Some id) = handle.ReverseLoad here id

-- an ASYNC record stays in the chain
abbrev pub by_class : Class → Walk → ℕ → Option ℕ → HandleStage
by_class Sync walk id next = handle.LoadFunc walk id next
by_class Async walk id next = first_on (record { first = walk.first; last = Some id }) next

-- a SYNC record leaves the chain: its place is with the last ASYNC record before it, or at the front
abbrev pub unlink_after : Option ℕ → Walk → Call → Option ℕ → HandleStage
unlink_after None walk call next = handle.BeginSync (record { first = next; last = None }) call next
unlink_after (Some last) walk call next = handle.Unlink walk last call next

-- what follows, by the number that the step found
abbrev pub handle_outcome : DrainValue → HandleStage → ℕ → CallOutcome
handle_outcome d handle.Enter found = handle_goes handle.Accept
handle_outcome d handle.Accept found = if found == 0 then handle_goes handle.LeaveIdle else handle_goes handle.Take
handle_outcome d handle.LeaveIdle found = ends note.Idle
handle_outcome d handle.Take found = handle_goes (reverse_on None (record_at found))
handle_outcome d (handle.ReverseLoad newer id) found = handle_goes (handle.ReverseStore newer id (record_at found))
handle_outcome d (handle.ReverseStore newer id older) found = handle_goes (reverse_on (Some id) older)
handle_outcome d (handle.LoadNext walk id) found = handle_goes (handle.LoadFlags walk id (record_at found))
handle_outcome d (handle.LoadFlags walk id next) found = handle_goes (by_class (class_of found) walk id next)
handle_outcome d (handle.LoadFunc walk id next) found = handle_goes (handle.LoadInfo walk id next found)
handle_outcome d (handle.LoadInfo walk id next func) found =
    handle_goes (unlink_after walk.last walk (record { id = id; class = Sync; func = func; info = found }) next)
handle_outcome d (handle.Unlink walk last call next) found = handle_goes (handle.BeginSync walk call next)
handle_outcome d (handle.BeginSync walk call next) found = calling (handle.CountSync walk call next) call
handle_outcome d (handle.CountSync walk call next) found = handle_goes (handle.EndSync walk call next)
handle_outcome d (handle.EndSync walk call next) found = handle_goes (first_on walk next)
handle_outcome d (handle.AsyncNext id) found = handle_goes (handle.AsyncFunc id (record_at found))
handle_outcome d (handle.AsyncFunc id next) found = handle_goes (handle.AsyncInfo id next found)
handle_outcome d (handle.AsyncInfo id next func) found = handle_goes (handle.BeginAsync (record { id = id; class = Async; func = func; info = found }) next)
handle_outcome d (handle.BeginAsync call next) found = calling (handle.CountAsync call next) call
handle_outcome d (handle.CountAsync call next) found = handle_goes (second_on next)
handle_outcome d handle.Leave found = ends (note.Handled d.calls)

-- the drain after the step: each record of the batch is counted as it is reversed, until the handling ends
abbrev pub drain_after : DrainValue → HandleStage → ℕ → DrainValue
drain_after d handle.LeaveIdle found = no_drain
drain_after d handle.Take found = no_drain
drain_after d (handle.ReverseStore newer id older) found = record { calls = d.calls + 1 }
drain_after d handle.Leave found = no_drain
drain_after d _ found = d

-- what a step has found is a link to a 32-bit record, or a 16-bit function, where it loads one
abbrev pub FitsFound : HandleStage → ℕ → Type 0
FitsFound handle.Take found = found ≤ 2 ^ 32
FitsFound (handle.ReverseLoad newer id) found = found ≤ 2 ^ 32
FitsFound (handle.LoadNext walk id) found = found ≤ 2 ^ 32
FitsFound (handle.AsyncNext id) found = found ≤ 2 ^ 32
FitsFound (handle.LoadFunc walk id next) found = found < 2 ^ 16
FitsFound (handle.AsyncFunc id next) found = found < 2 ^ 16
FitsFound _ found = Unit {0}

-- a stage that counts a record has room for it
abbrev pub RoomAt : DrainValue → HandleStage → Type 0
RoomAt d (handle.ReverseStore newer id older) = d.calls < MOST_CALLS
RoomAt d _ = Unit {0}
