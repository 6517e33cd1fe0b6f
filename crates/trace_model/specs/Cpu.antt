-- One CPU of the model.
use Rattle.std.specs.Prelude.{◌≡◌, ℕ, ◌+◌, ◌%◌, ◌^◌, Bool, true, false, not, ◌&&◌, ◌==◌, nat_lt, if◌then◌else◌, List, [], ◌∷◌, ◌++◌, filter, position}
use Rattle.std.specs.Prelude.{remove, replicate}
use Rattle.std.specs.Prelude.{slice_get, slice_index_or, slice_set, Option, Some, None, Result, Ok, Err}
use Rattle.smp_words.specs.FirstFault.{◌>>=◌}
use Rattle.smp_words.specs.declared.call.Class.{Class}
use Rattle.smp_words.specs.declared.call.Class.TheVariants.{Sync, Async}
use Rattle.trace_model.specs.declared.call.Call.{Call}
use Rattle.trace_model.specs.declared.call.Current.{Current}
use Rattle.trace_model.specs.declared.call.Progress.{Progress}
use Rattle.trace_model.specs.declared.call.Progress.TheVariants.{Unlocked, Runs, Ended}
use Rattle.trace_model.specs.declared.cpu.handling.Entry.{Entry}
use Rattle.trace_model.specs.declared.reason.Reason.{Reason}
use Rattle.trace_model.specs.declared.reason.Reason.TheVariants as reason

-- its queue of calls, whether something else is queued, its batch, the call that it runs, its interrupts, the stop that it is in, and what it has counted
pub record CpuState : Type 0 where
  pub queue : List Call
  pub others : Bool
  pub batch : List Call
  pub current : Option Current
  pub pending : Bool
  pub accepted : Bool
  pub irq : Bool
  pub inside : Option ℕ
  pub owes : List Bool
  pub queued : List ℕ
  pub ran : List ℕ

-- a CPU that has done nothing
abbrev pub fresh_cpu : CpuState
fresh_cpu = record {
  queue = [];
  others = false;
  batch = [];
  current = None;
  pending = false;
  accepted = false;
  irq = true;
  inside = None;
  owes = replicate 512 false;
  queued = replicate 512 0;
  ran = replicate 512 0;
}

-- a call that it has taken is not over: the one that it runs, else the front of its batch
abbrev pub over_with : Option Current → List Call → Result (Unit {0}) Reason
over_with (Some current) batch = Err (reason.NotOver current.call.id)
over_with None (call ∷ batch) = Err (reason.NotOver call.id)
over_with None [] = Ok tt

abbrev pub not_over : CpuState → Result (Unit {0}) Reason
not_over c = over_with c.current c.batch

-- it handles no interrupt
abbrev pub quiet_with : Result (Unit {0}) Reason → Bool → Result (Unit {0}) Reason
quiet_with (Err why) accepted = Err why
quiet_with (Ok u) accepted = if accepted then Err reason.InterruptAccepted else Ok tt

abbrev pub handles_nothing : CpuState → Result (Unit {0}) Reason
handles_nothing c = quiet_with (not_over c) c.accepted

-- a call joins its queue
abbrev pub pushed : Call → CpuState → CpuState
pushed call c = record c { queue = c.queue ++ call ∷ [] }

-- what is no call joins its queue
abbrev pub pushed_other : CpuState → CpuState
pushed_other c = record c { others = true }

-- two classes are the same
abbrev pub is_class : Class → Class → Bool
is_class Sync Sync = true
is_class Async Async = true
is_class _ _ = false

abbrev pub is_sync : Class → Bool
is_sync class = is_class Sync class

abbrev pub is_async : Class → Bool
is_async class = is_class Async class

-- the calls of a class, as they were queued
abbrev pub of_class : Class → List Call → List Call
of_class class queue = filter (λ call. is_class class call.class) queue

-- the order in which a batch runs: the SYNC calls, then the ASYNC ones, each as they were queued
abbrev pub order : List Call → List Call
order queue = of_class Sync queue ++ of_class Async queue

-- it takes its whole queue
abbrev pub taken : CpuState → CpuState
taken c = record c { queue = []; others = false; batch = order c.queue; accepted = false }

-- a step was made and leads there, or it was refused for that reason
abbrev pub Makes : {S : Type 0} → Result (Unit {0}) Reason → S → Result S Reason → Type 0
Makes (Ok u) new made = made ≡ Ok new
Makes (Err why) new made = made ≡ Err why

-- its interrupts are on
abbrev pub with_irq : {X : Type 0} → CpuState → Result X Reason → Result X Reason
with_irq c next = if c.irq then next else Err reason.InterruptsOff

-- it takes the interrupt that is pending
abbrev pub accepted : CpuState → Result CpuState Reason
accepted c = with_irq c (handles_nothing c >>= λ u.
    if c.pending then Ok (record c { pending = false; accepted = true }) else Err reason.NoInterruptPending)

-- it has looked for one, and there was none
abbrev pub as_idle : CpuState → Result (Unit {0}) Reason
as_idle c = with_irq c (handles_nothing c >>= λ u. if c.pending then Err reason.InterruptPending else Ok tt)

-- it may take its queue: where interrupts are told, it has accepted one
abbrev pub may_take : Bool → CpuState → Result (Unit {0}) Reason
may_take told c = with_irq c (not_over c >>= λ u. if told && not c.accepted then Err reason.NoInterruptAccepted else Ok tt)

-- the front of a batch, where the record is in it and the front is of it
abbrev pub front_of : ℕ → Bool → Reason → List Call → Result Call Reason
front_of r false elsewhere batch = Err elsewhere
front_of r true elsewhere [] = Err elsewhere
front_of r true elsewhere (x ∷ xs) = if x.id == r then Ok x else Err (reason.ComesFirst x.id)

-- all but the front
abbrev pub rest_of : List Call → List Call
rest_of [] = []
rest_of (x ∷ xs) = xs

-- it runs this call, and is so far with it
abbrev pub at_call : Progress → Call → Option Current
at_call progress call = Some (record { progress = progress; call = call })

-- the front leaves the batch, and is the call that it runs
abbrev pub left_batch : Progress → Call → CpuState → CpuState
left_batch progress call c = record c { batch = rest_of c.batch; current = at_call progress call }

-- it unlocks the record of the call that it runs
abbrev pub unlocked_running : Progress → Class → ℕ → Reason → CpuState → Result CpuState Reason
unlocked_running Ended class r elsewhere c = Ok (record c { current = None })
unlocked_running Runs Sync r elsewhere c = Err (reason.NotOver r)
unlocked_running _ _ r elsewhere c = Err elsewhere

-- it unlocks the front of its batch, an ASYNC call
abbrev pub unlocked_front : ℕ → CpuState → Call → Result CpuState Reason
unlocked_front r c front = if is_sync front.class then Err (reason.NotBegun r) else Ok (left_batch Unlocked front c)

-- it unlocks a record; the record is in its batch or not, and this is where it is
abbrev pub unlocked_with : Option Current → ℕ → Bool → Reason → CpuState → Result CpuState Reason
unlocked_with (Some x) r here elsewhere c =
    if x.call.id == r then unlocked_running x.progress x.call.class r elsewhere c else Err (reason.NotOver x.call.id)
unlocked_with None r here elsewhere c = front_of r here elsewhere c.batch >>= unlocked_front r c

abbrev pub unlocked : ℕ → Bool → Reason → CpuState → Result CpuState Reason
unlocked r here elsewhere c = unlocked_with c.current r here elsewhere c

-- the call has this function and argument
abbrev pub is_of : Entry → Call → Result (Unit {0}) Reason
is_of seen call = if (call.func == seen.func) && (call.info == seen.info) then Ok tt else Err (reason.CallIs call.func call.info)

-- the function of a call that is unlocked is entered
abbrev pub begun_at : Progress → Entry → Call → CpuState → Result CpuState Reason
begun_at Unlocked seen call c =
    if call.id == seen.id then (is_of seen call >>= λ u. Ok (record c { current = at_call Runs call })) else Err (reason.ComesFirst call.id)
begun_at _ seen call c = Err (reason.NotOver call.id)

abbrev pub begun_unlocked : Entry → Current → CpuState → Result CpuState Reason
begun_unlocked seen x c = begun_at x.progress seen x.call c

-- the front of the batch is entered: where unlocks are told, an ASYNC call is unlocked before
abbrev pub begun_front : Entry → Bool → CpuState → Call → Result CpuState Reason
begun_front seen unlocks c front =
    is_of seen front >>= λ u. if is_async front.class && unlocks then Err (reason.IsLocked seen.id) else Ok (left_batch Runs front c)

abbrev pub begun_with : Option Current → Entry → Bool → Reason → Bool → CpuState → Result CpuState Reason
begun_with (Some x) seen here elsewhere unlocks c = begun_unlocked seen x c
begun_with None seen here elsewhere unlocks c = front_of seen.id here elsewhere c.batch >>= begun_front seen unlocks c

abbrev pub begun : Entry → Bool → Reason → Bool → CpuState → Result CpuState Reason
begun seen here elsewhere unlocks c = with_irq c (begun_with c.current seen here elsewhere unlocks c)

-- the same where the order of queues is left out: of any call of the queue
abbrev pub begun_any : Entry → CpuState → Option ℕ → Option Call → Reason → Result CpuState Reason
begun_any seen c (Some i) (Some call) elsewhere =
    is_of seen call >>= λ u. Ok (record c { queue = remove c.queue i; current = at_call Runs call })
begun_any seen c _ _ elsewhere = Err elsewhere

-- the call at a place of the queue
abbrev pub call_at : List Call → Option ℕ → Option Call
call_at queue None = None
call_at queue (Some i) = slice_get queue i

-- the place in a queue of the call of this record
abbrev pub place_in : ℕ → List Call → Option ℕ
place_in r queue = position (λ call. call.id == r) queue

abbrev pub loose_with : Option Current → Entry → Reason → CpuState → Result CpuState Reason
loose_with (Some x) seen elsewhere c = begun_unlocked seen x c
loose_with None seen elsewhere c = begun_any seen c (place_in seen.id c.queue) (call_at c.queue (place_in seen.id c.queue)) elsewhere

abbrev pub begun_loose : Entry → Reason → CpuState → Result CpuState Reason
begun_loose seen elsewhere c = with_irq c (loose_with c.current seen elsewhere c)

-- one more at a place, as words of 64 bits count
abbrev pub counted : ℕ → List ℕ → List ℕ
counted at counts = slice_set counts at ((slice_index_or counts at 0 + 1) % 2 ^ 64)

-- after its function a SYNC call's record is still locked, where unlocks are told
abbrev pub after_end : Bool → Call → Option Current
after_end unlocks call = if is_sync call.class && unlocks then at_call Ended call else None

abbrev pub ended_at : Progress → Call → ℕ → Bool → CpuState → Result CpuState Reason
ended_at Runs call r unlocks c =
    if call.id == r then Ok (record c { ran = counted call.source c.ran; current = after_end unlocks call }) else Err (reason.NotOver call.id)
ended_at _ call r unlocks c = Err reason.NoCallRuns

abbrev pub ended_with : Option Current → ℕ → Bool → CpuState → Result CpuState Reason
ended_with None r unlocks c = Err reason.NoCallRuns
ended_with (Some x) r unlocks c = ended_at x.progress x.call r unlocks c

-- the function of a call has returned
abbrev pub ended : ℕ → Bool → CpuState → Result CpuState Reason
ended r unlocks c = ended_with c.current r unlocks c

-- where the trace leaves unlocks out, the ASYNC call at the front of a batch is unlocked when its record is seen free
abbrev pub slipped_front : ℕ → CpuState → Option Current → List Call → Bool × CpuState
slipped_front r c None (x ∷ xs) = if (x.id == r) && is_async x.class then (true, left_batch Unlocked x c) else (false, c)
slipped_front r c _ _ = (false, c)

abbrev pub slipped_from_batch : ℕ → CpuState → Bool × CpuState
slipped_from_batch r c = slipped_front r c c.current c.batch

-- and where it leaves the order out too, any ASYNC call of a queue
abbrev pub slipped_any : CpuState → Option ℕ → Option Call → Bool × CpuState
slipped_any c (Some i) (Some call) =
    if is_async call.class then (true, record c { queue = remove c.queue i; current = at_call Unlocked call }) else (false, c)
slipped_any c _ _ = (false, c)

abbrev pub slipped_at : Option Current → Bool → ℕ → CpuState → Bool × CpuState
slipped_at None true r c = slipped_any c (place_in r c.queue) (call_at c.queue (place_in r c.queue))
slipped_at _ _ r c = (false, c)

abbrev pub slipped_from_queue : ℕ → CpuState → Bool × CpuState
slipped_from_queue r c = slipped_at c.current c.irq r c

-- nothing is queued
abbrev pub is_empty : List Call → Bool
is_empty [] = true
is_empty (x ∷ xs) = false

abbrev pub is_bare : CpuState → Bool
is_bare c = not c.others && is_empty c.queue

-- it owes a CPU an interrupt where the queue was empty to which it has added
abbrev pub owed_if : Bool → ℕ → List Bool → List Bool
owed_if true to owes = slice_set owes to true
owed_if false to owes = owes

-- it has added to the queue of a CPU
abbrev pub owing : ℕ → Bool → CpuState → CpuState
owing to first c = record c { owes = owed_if first to c.owes }

-- it has queued a call for a CPU
abbrev pub noted : ℕ → Bool → CpuState → CpuState
noted to first c = record c { queued = counted to c.queued; owes = owed_if first to c.owes }

-- it has sent a CPU an interrupt
abbrev pub sent : ℕ → CpuState → CpuState
sent to c = record c { owes = slice_set c.owes to false }

-- an interrupt is pending for it
abbrev pub interrupted : CpuState → CpuState
interrupted c = record c { pending = true }

-- it runs a SYNC call, whose record is locked
abbrev pub is_locked : Progress → Class → Bool
is_locked Runs Sync = true
is_locked _ _ = false

abbrev pub locked_with : Option Current → Bool
locked_with None = false
locked_with (Some x) = is_locked x.progress x.call.class

abbrev pub runs_locked : CpuState → Bool
runs_locked c = locked_with c.current

-- its interrupts are on or off
abbrev pub with_interrupts : Bool → CpuState → CpuState
with_interrupts on c = record c { irq = on }

-- it is in the stop of this number, or in none
abbrev pub in_stop : Option ℕ → CpuState → CpuState
in_stop number c = record c { inside = number }
