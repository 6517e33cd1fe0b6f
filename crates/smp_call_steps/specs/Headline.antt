-- The headline, of calls: where records are, that each call runs once and on its target, in which order, and what holds of a drained
-- machine. It speaks of lists of calls and of words, and of nobody's stage.
use Rattle.std.specs.Prelude.{◌≡◌, ◌≢◌, ℕ, ◌%◌, List, ◌++◌, IsPermutation}
use Rattle.smp_words.specs.Size.{owner}
use Rattle.smp_call_steps.specs.State.{CallState}
use Rattle.smp_call_steps.specs.Lists.{batches, calls_from, calls_to, running_call}
use Rattle.smp_call_steps.specs.Order.{IsPrefix, of_class}
use Rattle.smp_call_steps.specs.Places.{HasRecord, Holds, IsApart, locked_by}
use Rattle.smp_call_steps.specs.ByKind.{flags_in, queued_in, ran_in}
use Rattle.smp_call_steps.specs.Names.{Call, Class, Flags, Hand, Head, RecPlace, Word}
use Rattle.smp_call_steps.specs.Names.place

-- a record is free; or its source holds it; or a call by it is in a CPU's queue, or in its batch, or is the SYNC call that runs there
abbrev pub IsAt : CallState → (ℕ → ℕ) → ℕ → RecPlace → Type 0
IsAt a flags id place.Free = flags id ≡ 0
IsAt a flags id place.Held = Holds (a.held (owner id)) id
IsAt a flags id (place.Queued cpu) = HasRecord id (a.queue cpu)
IsAt a flags id (place.Batch cpu) = HasRecord id (a.batch cpu)
IsAt a flags id (place.Running cpu) = HasRecord id (locked_by (a.running cpu))

-- a record is at its place and at no other, locked unless it is free; and only its source holds it
pub record HasOnePlace (a : CallState) (flags : ℕ → ℕ) (id : ℕ) : Type 0 where
  pub here : IsAt a flags id (a.place id)
  pub only : (p : RecPlace) → IsAt a flags id p → p ≡ a.place id
  pub locked : a.place id ≢ place.Free → flags id % 2 ≡ 1
  pub held : (cpu : ℕ) → Holds (a.held cpu) id → owner id ≡ cpu

-- PLACE: so is each record, and no queue and no batch has one twice
pub record InOnePlace (a : CallState) (at : Word → ℕ) : Type 0 where
  pub each : (id : ℕ) → HasOnePlace a (flags_in at) id
  pub queue_apart : (cpu : ℕ) → IsApart (a.queue cpu)
  pub batch_apart : (cpu : ℕ) → IsApart (a.batch cpu)

-- the calls whose functions a CPU has entered, in order: those that have ended there, and the one that runs
abbrev pub begun : CallState → ℕ → List Call
begun a cpu = a.ran cpu ++ running_call (a.running cpu)

-- the calls that wait there
abbrev pub waiting : CallState → ℕ → List Call
waiting a cpu = a.batch cpu ++ a.queue cpu

-- all calls that ever joined the queue of a CPU, in the order in which they joined it
abbrev pub joined : CallState → ℕ → List Call
joined a cpu = batches (a.taken cpu) ++ a.queue cpu

-- ONCE: what a source has sent to a CPU is what has begun there of that source, and what waits there: no call is lost, none
-- comes twice, none runs elsewhere
abbrev pub RunOnce : CallState → Type 0
RunOnce a = (source cpu : ℕ) → IsPermutation (calls_to cpu (a.sent source)) (calls_from source (begun a cpu ++ waiting a cpu))

-- ORDER: of each class, the calls that have begun on a CPU are the first of those that joined its queue; and the calls of a source
-- have joined it in the order in which that has sent them
pub record RunInOrder (a : CallState) : Type 0 where
  pub begin : (cpu : ℕ) (class : Class) → IsPrefix (of_class class (begun a cpu)) (of_class class (joined a cpu))
  pub join : (source cpu : ℕ) → calls_from source (joined a cpu) ≡ calls_to cpu (a.sent source)

-- no queue has a call, no record is locked, and nobody handles calls, as the words say
pub record IsDrained (at : Word → ℕ) : Type 0 where
  pub heads : (cpu : ℕ) → at (Head cpu) ≡ 0
  pub flags : (id : ℕ) → at (Flags id) ≡ 0
  pub hands : (cpu : ℕ) → at (Hand cpu) ≡ 0

-- what a source has sent to a CPU has run there, each call once, and the two counts of this are equal
pub record HaveAllRun (a : CallState) (at : Word → ℕ) (source cpu : ℕ) : Type 0 where
  pub calls : IsPermutation (calls_to cpu (a.sent source)) (calls_from source (a.ran cpu))
  pub counts : queued_in at source cpu ≡ ran_in at cpu source

-- DRAINED: on a drained machine
abbrev pub RunEqualQueued : CallState → (Word → ℕ) → Type 0
RunEqualQueued a at = IsDrained at → (source cpu : ℕ) → HaveAllRun a at source cpu
