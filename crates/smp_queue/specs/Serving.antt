-- Handling, a call at a time.
use Rattle.std.specs.Prelude.{◌≡◌, ℕ, ◌+◌, ◌%◌, ◌^◌, ◌<◌, Bool, true, false, Option, Some, None, List, [], ◌∷◌, ◌++◌, length, slice_index_or}
use Rattle.atomic_table.specs.Seated.{TableId}
use Rattle.smp_mask.specs.Mask.{has}
use Rattle.smp_words.specs.Size.{cpus, records}
use Rattle.smp_call_steps.specs.declared.known.Running.{Running}
use Rattle.smp_call_steps.specs.declared.known.Running.TheVariants.{SyncCall, AsyncCall}
use Rattle.smp_call_steps.specs.Drains.{first_on, second_on}
use Rattle.smp_call_steps.specs.Threads.Handling.{runs_next}
use Rattle.smp_call_steps.specs.Histories.{sent_to}
use Rattle.smp_call_steps.specs.Threads.Known.{Lives}
use Rattle.smp_call_steps.specs.Threads.Parts.{part_taken, part_ended}
use Rattle.smp_queue.specs.Names.{Call, Class, Sync, Async, Word, Hand, Flags, KnownCalls, HandleStage, Handle, Nothing, Heard}
use Rattle.smp_queue.specs.Names.handle
use Rattle.smp_queue.specs.Rule.{SeatInvariant}
use Rattle.smp_queue.specs.Seat.{SeatValue, InHandle}
use Rattle.smp_queue.specs.Cpu.{CpuValue, cpu_of}
use Rattle.smp_call_steps.specs.Order.{order}
use Rattle.smp_queue.specs.Handling.{AreRan, Grows, heard_of, asks, drains}
use Rattle.smp_queue.specs.ServingValue.{ServingValue}
use Rattle.smp_queue.specs.declared.handle.Batch.{Batch}
use Rattle.smp_queue.specs.declared.run.Pass.{Pass}
use Rattle.smp_queue.specs.declared.run.Pass.TheVariants.{First, Second}
use Rattle.smp_queue.specs.declared.run.Passed.{Passed}
use Rattle.smp_queue.specs.declared.run.Passed.TheVariants.{At, Over}
use Rattle.smp_queue.specs.declared.run.Place.{Place}

-- where a CPU goes on in a pass
abbrev pub on : Pass → Option ℕ → HandleStage
on (First walk) here = first_on walk here
on Second here = second_on here

-- where a call of a pass begins
abbrev pub begins_in : Pass → Call → Option ℕ → HandleStage
begins_in (First walk) call next = handle.BeginSync walk call next
begins_in Second call next = handle.BeginAsync call next

-- where it is out
abbrev pub out_in : Pass → Call → Option ℕ → HandleStage
out_in (First walk) call next = handle.CountSync walk call next
out_in Second call next = handle.CountAsync call next

abbrev pub begins_at : Place → HandleStage
begins_at p = begins_in p.pass p.call p.next

abbrev pub out_at : Place → HandleStage
out_at p = out_in p.pass p.call p.next

-- where its CPU goes on behind it
abbrev pub goes_from : Place → HandleStage
goes_from p = on p.pass p.next

-- as what a call runs, by its class
abbrev pub running_by : Class → Call → Running
running_by Sync call = SyncCall call
running_by Async call = AsyncCall call

abbrev pub running_as : Call → Running
running_as call = running_by call.class call

-- a CPU whose call is out
abbrev pub gives : Place → KnownCalls → KnownCalls
gives p v = record v { stage = Some (Handle (out_at p)); part = runs_next (running_as p.call) v.part }

-- the words of a call that is out: a SYNC call's record is locked, and the handling word of its CPU names it; an ASYNC
-- call's record is free
abbrev pub ShowsOut : Class → (Word → ℕ) → ℕ → Call → Type 0
ShowsOut Sync at me call = (at (Flags call.id) % 2 ≡ 1) × (at (Hand me) ≡ call.id + 2)
ShowsOut Async at me call = at (Flags call.id) ≡ 0

-- some words of its CPU's table are so
abbrev pub IsOut : KnownCalls → Call → Type 0
IsOut v call = (s : SeatInvariant v) × ShowsOut call.class s.lives.at v.number call

-- the front of the batch is out
pub record Gives (t : TableId) (old new : SeatValue) (p : Place) : Type 0 where
  pub at : InHandle t new (out_at p)
  pub known : new.known ≡ gives p old.known
  pub batch : old.known.part.batch ≡ p.call ∷ new.known.part.batch
  pub in_range : p.call.id < records
  pub out : IsOut new.known p.call

-- the first pass has come to a call, or it is over and the second one begins
abbrev pub PassesOn : TableId → SeatValue → SeatValue → Passed → Type 0
PassesOn t old new (At p) = InHandle t new (begins_at p) × (new.known ≡ record (old.known) { stage = new.known.stage })
PassesOn t old new (Over here) = InHandle t new (second_on here) × (new.known ≡ record (old.known) { stage = new.known.stage })

-- this CPU is at a call that is to begin, or it is outside and none is left of its batch
abbrev pub IsAt : TableId → CpuValue → SeatValue → Option Place → Type 0
IsAt t c d (Some p) = InHandle t d (begins_at p) × (cpu_of d ≡ c)
IsAt t c d None = (d.table ≡ t) × Lives d.known × (d.known.stage ≡ None) × (c.part.batch ≡ []) × (cpu_of d ≡ c)

-- a CPU that has taken this batch
abbrev pub takes : List Call → CpuValue → CpuValue
takes queue c = record c { part = record (part_taken queue c.part) { running = Nothing } }

-- a CPU whose call is out, with this left of its batch
abbrev pub serves : Call → List Call → CpuValue → CpuValue
serves call rest c = record c { part = record (c.part) { batch = rest; running = running_as call } }

-- a CPU whose call has ended
abbrev pub ends : Call → CpuValue → CpuValue
ends call c = record c { part = part_ended call c.part }

-- a CPU that has run these calls of its batch, with this left of it
abbrev pub has_run : List Call → List Call → CpuValue → CpuValue
has_run calls rest c = record c { part = record (c.part) { batch = rest; running = Nothing; ran = c.part.ran ++ calls } }

-- a CPU outside has taken its interrupt, and whether one was pending; where none was, it is outside again
abbrev pub TakesInterrupt : TableId → SeatValue → SeatValue → Bool → Type 0
TakesInterrupt t old new false = (new.table ≡ t) × Lives new.known × (new.known.stage ≡ None) × (cpu_of new ≡ asks false (cpu_of old))
TakesInterrupt t old new true = InHandle t new handle.Take × (cpu_of new ≡ asks true (cpu_of old))

-- a CPU that was this one has taken its queue, and gone to its first call
abbrev pub TakesBatch : TableId → CpuValue → SeatValue → Batch → Type 0
TakesBatch t old new b = (queue : List Call) × (b.calls ≡ length queue) × IsAt t (takes queue old) new b.first

-- a CPU outside has taken its interrupt and, where one was pending, its queue
abbrev pub Begins : TableId → SeatValue → SeatValue → Option Batch → Type 0
Begins t old new None = TakesInterrupt t old new false
Begins t old new (Some b) = TakesBatch t (asks true (cpu_of old)) new b

-- the front of the batch has run, its handler has heard it, and its CPU has gone on
pub record HasRunCall {H : Type 0} (leads : H → Heard → H → Type 0) (t : TableId) (old new : SeatValue) (call : Call) (found : Option Place) (counts : List ℕ)
    (before after : H) : Type 0 where
  pub batch : old.known.part.batch ≡ call ∷ new.known.part.batch
  pub at : IsAt t (has_run (call ∷ []) new.known.part.batch (cpu_of old)) new found
  pub counts_are : AreRan counts new.known
  pub heard_it : leads before (heard_of call) after

-- a batch has run, its handler has heard it, and its CPU is outside
pub record HasRunAll {H : Type 0} (leads : H → Heard → H → Type 0) (t : TableId) (old new : SeatValue) (counts : List ℕ) (before after : H) : Type 0 where
  pub table_is : new.table ≡ t
  pub lives : Lives new.known
  pub stage_is : new.known.stage ≡ None
  pub cpu : cpu_of new ≡ has_run (old.known.part.batch) [] (cpu_of old)
  pub counts_are : AreRan counts new.known
  pub grows : Grows leads before (old.known.part.batch) after

-- a CPU whose interrupt was pending has taken its queue and run it, its handler has heard it, and the CPU is outside
pub record RunsQueue {H : Type 0} (leads : H → Heard → H → Type 0) (t : TableId) (old new : SeatValue) (counts : List ℕ) (before after : H) (ran : ℕ)
    : Type 0 where
  pub queue : List Call
  pub ran_is : ran ≡ length queue
  pub table_is : new.table ≡ t
  pub lives : Lives new.known
  pub stage_is : new.known.stage ≡ None
  pub cpu : cpu_of new ≡ drains queue (cpu_of old)
  pub counts_are : AreRan counts new.known
  pub grows : Grows leads before (order queue) after

-- what a CPU keeps inside handle
pub record IsKeptInside (v : KnownCalls) (number : ℕ) (queued ran : List ℕ) : Type 0 where
  pub number_is : v.number ≡ number
  pub below : number < cpus
  pub online : has v.setting.online number ≡ true
  pub records_sized : length v.part.confirmed ≡ records
  pub queued_sized : length queued ≡ cpus
  pub queued_are : (to : ℕ) → to < cpus → slice_index_or queued to 0 ≡ length (sent_to to v.part.sent) % 2 ^ 64
  pub ran_are : AreRan ran v

-- what it keeps while this call is out
pub record IsServing (v : KnownCalls) (number : ℕ) (queued ran : List ℕ) (p : Place) : Type 0 where
  pub kept : IsKeptInside v number queued ran
  pub stage_is : v.stage ≡ Some (Handle (out_at p))
  pub running_is : v.part.running ≡ running_as p.call
  pub in_range : p.call.id < records
  pub out : IsOut v p.call

-- it is at a call that is to begin, or it is outside and none is left of its batch
abbrev pub StandsNow : TableId → SeatValue → Option Place → Type 0
StandsNow t d (Some p) = InHandle t d (begins_at p)
StandsNow t d None = (d.known.stage ≡ None) × (d.known.part.batch ≡ [])

-- the front of the batch of this CPU is out
abbrev pub IsNext : CpuValue → ServingValue → Type 0
IsNext c s = (rest : List Call) × (c.part.batch ≡ s.call ∷ rest) × (s.cpu ≡ serves s.call rest c)
