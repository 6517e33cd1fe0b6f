-- Who may make which step of the call half: what holds of the calls before it.
use Rattle.std.specs.Prelude.{◌≡◌, ◌≢◌, ◌⊎◌, ℕ, zero, suc, ◌+◌, ◌-◌, ◌%◌, ◌^◌, ◌<◌, true, false, if◌then◌else◌, Option, Some, None, List, [], ◌∷◌}
use Rattle.smp_words.specs.Size.{cpus, records, owner}
use Rattle.smp_call_steps.specs.Calls.{CallState, Holding, Nothing, CountedCall}
use Rattle.smp_call_steps.specs.Functions.{runs_as}
use Rattle.smp_call_steps.specs.Places.{Holds}
use Rattle.smp_call_steps.specs.Words.{FlagsShow, bit}
use Rattle.smp_call_steps.specs.Names.{Call, Class, Sync, Async, Word, Head, Intr, Hand, Queued, Ran, Flags, Func, Info, Next, Act, Seen, RecPlace}
use Rattle.smp_call_steps.specs.Names.place
use Rattle.smp_call_steps.specs.Names.act

-- it holds this record, whose call is not counted
abbrev pub HoldsUncounted : Option Holding → ℕ → Type 0
HoldsUncounted None id = ⊥
HoldsUncounted (Some h) id = (h.call.id ≡ id) × (h.is_counted ≡ false)

-- it holds a record whose call is counted for this CPU
abbrev pub HoldsFor : Option Holding → ℕ → Type 0
HoldsFor None to = ⊥
HoldsFor (Some h) to = (h.is_counted ≡ true) × (h.to ≡ to)

-- it holds a record whose call is counted for no other CPU
abbrev pub MayCount : Option Holding → ℕ → Type 0
MayCount None to = ⊥
MayCount (Some h) to = h.is_counted ≡ true → h.to ≡ to

-- a head that is exchanged then leads to the record that is held
abbrev pub LeadsTo : Option Holding → Option ℕ → Type 0
LeadsTo (Some h) (Some n) = n ≡ h.call.id + 1
LeadsTo _ _ = Unit {0}

-- the front of what is left of its batch is a call of this class, and nothing runs
pub record IsNext (a : CallState) (me : ℕ) (class : Class) (call : Call) : Type 0 where
  pub rest : List Call
  pub front : a.batch me ≡ call ∷ rest
  pub idle : a.running me ≡ Nothing
  pub class_is : call.class ≡ class

-- it handles nothing: nothing is left of its batch, nothing runs, and it has accepted no interrupt
pub record HandlesNothing (a : CallState) (me : ℕ) : Type 0 where
  pub batch : a.batch me ≡ []
  pub idle : a.running me ≡ Nothing
  pub accepted : a.accepted me ≡ false

-- it is at rest: it holds no record and handles nothing
pub record IsAtRest (a : CallState) (me : ℕ) : Type 0 where
  pub none : a.held me ≡ None
  pub rests : HandlesNothing a me

-- the flags of a record are loaded by its source, which is at rest, or by the CPU in whose batch it is
abbrev pub MayLoadFlags : CallState → ℕ → ℕ → Type 0
MayLoadFlags a me id = ((owner id ≡ me) × IsAtRest a me) ⊎ (a.place id ≡ place.Batch me)

-- a free record of its own is locked by a CPU that holds none and handles nothing
pub record MayLock (a : CallState) (me id : ℕ) : Type 0 where
  pub in_range : id < records
  pub owned : owner id ≡ me
  pub free : a.place id ≡ place.Free
  pub none : a.held me ≡ None
  pub rests : HandlesNothing a me

-- a record is unlocked by the CPU that holds it and has counted its call back, and that handles nothing; or by one that holds
-- none: the one whose SYNC call it is, once that is counted, or where its ASYNC call is next
abbrev pub MayUnlock : CallState → ℕ → ℕ → Type 0
MayUnlock a me id = (HoldsUncounted (a.held me) id × HandlesNothing a me)
    ⊎ ((a.held me ≡ None) × ((call : Call) × (call.id ≡ id) × (a.running me ≡ CountedCall call) × (call.class ≡ Sync)))
    ⊎ ((a.held me ≡ None) × ((call : Call) × (call.id ≡ id) × IsNext a me Async call))

-- flags of 0 unlock a record, and odd ones lock it
abbrev pub MayStoreFlags : CallState → ℕ → ℕ → ℕ → Type 0
MayStoreFlags a me id zero = MayUnlock a me id
MayStoreFlags a me id (suc n) = MayLock a me id × (suc n % 2 ≡ 1)

-- the handling word is stored as a CPU enters, where it has nothing to handle, and leaves, where it has nothing left; or
-- as the SYNC call of a record begins, which is next
abbrev pub MayStoreHand : CallState → ℕ → ℕ → Type 0
MayStoreHand a me n = ((n < 2) × HandlesNothing a me) ⊎ ((call : Call) × (n ≡ call.id + 2) × IsNext a me Sync call)

-- the next word of a record is stored by the CPU that holds it, or in whose batch it is, and which runs nothing
abbrev pub MayLink : CallState → ℕ → ℕ → Type 0
MayLink a me id = Holds (a.held me) id ⊎ ((a.place id ≡ place.Batch me) × (a.running me ≡ Nothing))

-- a call is counted as run while it runs, once
abbrev pub MayCountRun : CallState → ℕ → ℕ → Type 0
MayCountRun a me source = (call : Call) × (owner call.id ≡ source) × (a.running me ≡ runs_as call.class call)

-- the own interrupt word is swapped for 0 by a CPU that is at rest, which finds whether an interrupt is pending for it
pub record MayAccept (a : CallState) (me found put : ℕ) : Type 0 where
  pub rests : IsAtRest a me
  pub finds : found ≡ bit (a.pending me)
  pub clears : put ≡ 0

-- the queue is taken once an interrupt is accepted, by a CPU that has nothing left to run
pub record MayTake (a : CallState) (me : ℕ) : Type 0 where
  pub accepted : a.accepted me ≡ true
  pub batch : a.batch me ≡ []
  pub idle : a.running me ≡ Nothing

-- a word of this record
abbrev pub IsWordOf : ℕ → Word → Type 0
IsWordOf id (Flags k) = k ≡ id
IsWordOf id (Func k) = k ≡ id
IsWordOf id (Info k) = k ≡ id
IsWordOf id (Next k) = k ≡ id
IsWordOf id _ = ⊥

-- who may store to the words of a record that is there: its source while it is free, the CPU that holds it, nobody while it
-- is in a queue, and then the CPU that has taken it
abbrev pub MayStoreAt : RecPlace → CallState → ℕ → ℕ → Type 0
MayStoreAt place.Free a me id = owner id ≡ me
MayStoreAt place.Held a me id = Holds (a.held me) id
MayStoreAt (place.Queued cpu) a me id = ⊥
MayStoreAt (place.Batch cpu) a me id = cpu ≡ me
MayStoreAt (place.Running cpu) a me id = cpu ≡ me

-- what holds before a step that is seen so; there is no other: a load puts nothing, a store finds nothing, and what is stored fits
abbrev pub MaySee : CallState → ℕ → Act → Word → Option ℕ → Option ℕ → Type 0
MaySee a me act.Load (Flags id) (Some n) None = MayLoadFlags a me id × FlagsShow (a.place id) n
MaySee a me act.Load (Func id) (Some n) None = a.place id ≡ place.Batch me
MaySee a me act.Load (Info id) (Some n) None = a.place id ≡ place.Batch me
MaySee a me act.Load (Next id) (Some n) None = a.place id ≡ place.Batch me
MaySee a me act.Load (Head to) (Some n) None = HoldsFor (a.held me) to
MaySee a me act.Store (Flags id) None (Some n) = MayStoreFlags a me id n
MaySee a me act.Store (Func id) None (Some n) = HoldsUncounted (a.held me) id × (n < 2 ^ 16)
MaySee a me act.Store (Info id) None (Some n) = HoldsUncounted (a.held me) id × (n < 2 ^ 64)
MaySee a me act.Store (Next id) None (Some n) = MayLink a me id
MaySee a me act.Store (Queued from to) None (Some n) = (from ≡ me) × MayCount (a.held me) to × (to < cpus)
MaySee a me act.Store (Ran by source) None (Some n) = (by ≡ me) × MayCountRun a me source
MaySee a me act.Store (Hand cpu) None (Some n) = (cpu ≡ me) × MayStoreHand a me n
MaySee a me act.Store (Intr to) None (Some n) = (to < cpus) × (n ≡ 1)
MaySee a me act.Cas (Head to) (Some n) put = HoldsFor (a.held me) to × LeadsTo (a.held me) put
MaySee a me act.Swap (Intr cpu) (Some n) (Some m) = (cpu ≡ me) × MayAccept a me n m
MaySee a me act.Swap (Head cpu) (Some n) (Some m) = (cpu ≡ me) × MayTake a me × (m ≡ 0)
MaySee a me _ _ found put = ⊥

-- what is found is what is in the word
abbrev pub IsFound : (Word → ℕ) → Word → Option ℕ → Type 0
IsFound at word None = Unit {0}
IsFound at word (Some n) = n ≡ at word

-- a tally that is this number, with the call that is held counted, or counted back
abbrev pub recounted : Option Holding → ℕ → ℕ
recounted None n = n
recounted (Some h) n = if h.is_counted then (n + (2 ^ 64 - 1)) % 2 ^ 64 else (n + 1) % 2 ^ 64

-- how a step goes by the words: a tally goes on from the number that it has, and an interrupt is accepted inside handle
abbrev pub FitsWords : CallState → (Word → ℕ) → ℕ → Act → Word → Option ℕ → Type 0
FitsWords a at me act.Store (Queued from to) (Some n) = n ≡ recounted (a.held me) (at (Queued from to))
FitsWords a at me act.Store (Ran by source) (Some n) = n ≡ (at (Ran by source) + 1) % 2 ^ 64
FitsWords a at me act.Swap (Intr cpu) put = at (Hand me) ≢ 0
FitsWords a at me _ word put = Unit {0}

-- who may make a step where the calls and the words are these
pub record MayMake (a : CallState) (at : Word → ℕ) (seen : Seen) : Type 0 where
  pub may : MaySee a seen.cpu seen.act seen.word seen.found seen.put
  pub finds : IsFound at seen.word seen.found
  pub fits : FitsWords a at seen.cpu seen.act seen.word seen.put
