-- What the words show of the calls: flags, functions, infos, chains, interrupts and handling words.
use Rattle.std.specs.Prelude.{◌≡◌, ℕ, ◌+◌, ◌%◌, ◌⊎◌, Bool, true, Option, Some, List, [], ◌∷◌}
use Rattle.std.specs.List.{AllByRecursion}
pub use Rattle.smp_words.specs.Bit.{bit}
use Rattle.smp_words.specs.Flags.{flags_of}
use Rattle.smp_call_steps.specs.Places.{locked_by}
use Rattle.smp_call_steps.specs.State.{Holding, Running}
use Rattle.smp_call_steps.specs.Names.{Call, Word, RecPlace}
use Rattle.smp_call_steps.specs.Names.place
pub use Rattle.smp_call_steps.specs.ByKind.{flags_in, funcs_in, infos_in, nexts_in, heads_in, intrs_in, hands_in, queued_in, ran_in}

-- the next words lead from this link down through the calls, the newest first, to the link below the oldest
abbrev pub Leads : (ℕ → ℕ) → ℕ → List Call → ℕ → Type 0
Leads nexts link [] below = link ≡ below
Leads nexts link (oldest ∷ newer) below = (nexts oldest.id ≡ below) × Leads nexts link newer (oldest.id + 1)

-- the next words lead from this link up through the calls, the oldest first, to the link after the newest
abbrev pub Path : (ℕ → ℕ) → ℕ → List Call → ℕ → Type 0
Path nexts link [] after = link ≡ after
Path nexts link (oldest ∷ newer) after = (link ≡ oldest.id + 1) × Path nexts (nexts oldest.id) newer after

-- 0 exactly where the record is free, else LOCK
abbrev pub FlagsShow : RecPlace → ℕ → Type 0
FlagsShow place.Free flags = flags ≡ 0
FlagsShow _ flags = flags % 2 ≡ 1

-- the words of a locked record are those of its call
pub record IsWritten (flags funcs infos : ℕ → ℕ) (call : Call) : Type 0 where
  pub flags_are : flags call.id ≡ flags_of call.class
  pub func_is : funcs call.id ≡ call.func
  pub info_is : infos call.id ≡ call.info

-- flags are 0 exactly on the free records, and the records of all queues, batches and running SYNC calls are written
pub record Written (flags funcs infos : ℕ → ℕ) (places : ℕ → RecPlace) (queue batch : ℕ → List Call) (running : ℕ → Running) : Type 0 where
  pub locks : (id : ℕ) → FlagsShow (places id) (flags id)
  pub queued : (cpu : ℕ) → AllByRecursion (IsWritten flags funcs infos) (queue cpu)
  pub batched : (cpu : ℕ) → AllByRecursion (IsWritten flags funcs infos) (batch cpu)
  pub runs : (cpu : ℕ) → AllByRecursion (IsWritten flags funcs infos) (locked_by (running cpu))

-- the same of these words
abbrev pub IsWrittenIn : (Word → ℕ) → Call → Type 0
IsWrittenIn at call = IsWritten (flags_in at) (funcs_in at) (infos_in at) call

abbrev pub WrittenIn : (Word → ℕ) → (ℕ → RecPlace) → (ℕ → List Call) → (ℕ → List Call) → (ℕ → Running) → Type 0
WrittenIn at places queue batch running = Written (flags_in at) (funcs_in at) (infos_in at) places queue batch running

-- the chain of each queue
pub record Chained (heads nexts : ℕ → ℕ) (queue : ℕ → List Call) : Type 0 where
  pub chain : (cpu : ℕ) → Leads nexts (heads cpu) (queue cpu) 0

-- the link of a held record is what its source last stored there
abbrev pub LinkIs : (ℕ → ℕ) → Option Holding → Option ℕ → Type 0
LinkIs nexts (Some h) (Some n) = nexts h.call.id ≡ n
LinkIs nexts _ _ = Unit {0}

-- the batch that was taken last
abbrev pub last_batch : List (List Call) → List Call
last_batch [] = []
last_batch (batch ∷ []) = batch
last_batch (batch ∷ (next ∷ rest)) = last_batch (next ∷ rest)

-- the links of held records
pub record Linked (nexts : ℕ → ℕ) (held : ℕ → Option Holding) (linked : ℕ → Option ℕ) : Type 0 where
  pub held_links : (cpu : ℕ) → LinkIs nexts (held cpu) (linked cpu)

abbrev pub IsEmpty : List Call → Type 0
IsEmpty [] = Unit {0}
IsEmpty (call ∷ rest) = ⊥

-- somebody sees to it that this CPU drains its queue
pub data IsNoticed (pending accepted : ℕ → Bool) (owes : ℕ → ℕ → Bool) (cpu : ℕ) : Type 0 where
  is_pending : pending cpu ≡ true → IsNoticed pending accepted owes cpu
  is_accepted : accepted cpu ≡ true → IsNoticed pending accepted owes cpu
  is_owed : (source : ℕ) → owes source cpu ≡ true → IsNoticed pending accepted owes cpu

-- the interrupt words are those pending, and the interrupt law: where a queue is not empty, its CPU is noticed
pub record Noticed (intrs : ℕ → ℕ) (queue : ℕ → List Call) (pending accepted : ℕ → Bool) (owes : ℕ → ℕ → Bool) : Type 0 where
  pub words : (cpu : ℕ) → intrs cpu ≡ bit (pending cpu)
  pub noticed : (cpu : ℕ) → IsEmpty (queue cpu) ⊎ IsNoticed pending accepted owes cpu
