-- The place law: each record is in exactly one place, and the lists of the call state agree with it.
use Rattle.std.specs.Prelude.{◌≡◌, ◌≢◌, ℕ, ◌^◌, ◌<◌, ◌⊎◌, Bool, true, Option, Some, None, List, [], ◌∷◌}
use Rattle.std.specs.List.{AllByRecursion}
use Rattle.smp_words.specs.Size.{owner, records}
use Rattle.smp_call_steps.specs.State.{Holding, Running, Nothing, SyncCall, CountedCall, AsyncCall}
use Rattle.smp_call_steps.specs.Names.{Call, RecPlace}
use Rattle.smp_call_steps.specs.Names.place

-- no call of the list is by this record
abbrev pub IsAbsent : ℕ → List Call → Type 0
IsAbsent id calls = AllByRecursion (λ call. call.id ≢ id) calls

-- no record twice
abbrev pub IsApart : List Call → Type 0
IsApart [] = Unit {0}
IsApart (call ∷ rest) = IsAbsent call.id rest × IsApart rest

-- some call of the list is by this record
abbrev pub HasRecord : ℕ → List Call → Type 0
HasRecord id [] = ⊥
HasRecord id (call ∷ rest) = (call.id ≡ id) ⊎ HasRecord id rest

-- a call by a record that there is, with a 16-bit function and a 64-bit info
pub record IsCall (call : Call) : Type 0 where
  pub in_range : call.id < records
  pub func : call.func < 2 ^ 16
  pub info : call.info < 2 ^ 64

-- a call whose record is at this place
pub record IsPlaced (places : ℕ → RecPlace) (at : RecPlace) (call : Call) : Type 0 where
  pub is_call : IsCall call
  pub placed : places call.id ≡ at

-- these calls, each with its record at this place
abbrev pub AllPlaced : (ℕ → RecPlace) → RecPlace → List Call → Type 0
AllPlaced places at calls = AllByRecursion (IsPlaced places at) calls

-- the call that runs, where its record is locked meanwhile
abbrev pub locked_by : Running → List Call
locked_by Nothing = []
locked_by (SyncCall call) = call ∷ []
locked_by (CountedCall call) = call ∷ []
locked_by (AsyncCall call) = []

-- this is the record of the call that is held
abbrev pub Holds : Option Holding → ℕ → Type 0
Holds None id = ⊥
Holds (Some h) id = h.call.id ≡ id

-- where a record is said to be, there it is
abbrev pub IsThere : (ℕ → Option Holding) → (ℕ → List Call) → (ℕ → List Call) → (ℕ → Running) → ℕ → RecPlace → Type 0
IsThere held queue batch running id place.Free = Unit {0}
IsThere held queue batch running id place.Held = Holds (held (owner id)) id
IsThere held queue batch running id (place.Queued cpu) = HasRecord id (queue cpu)
IsThere held queue batch running id (place.Batch cpu) = HasRecord id (batch cpu)
IsThere held queue batch running id (place.Running cpu) = HasRecord id (locked_by (running cpu))

-- the place law
pub record Placed (places : ℕ → RecPlace) (held : ℕ → Option Holding) (queue batch : ℕ → List Call) (running : ℕ → Running)
    (confirmed : ℕ → ℕ → Bool) : Type 0 where
  pub queued : (cpu : ℕ) → AllByRecursion (IsPlaced places (place.Queued cpu)) (queue cpu)
  pub batched : (cpu : ℕ) → AllByRecursion (IsPlaced places (place.Batch cpu)) (batch cpu)
  pub runs : (cpu : ℕ) → AllByRecursion (IsPlaced places (place.Running cpu)) (locked_by (running cpu))
  pub queue_apart : (cpu : ℕ) → IsApart (queue cpu)
  pub batch_apart : (cpu : ℕ) → IsApart (batch cpu)
  pub is_there : (id : ℕ) → IsThere held queue batch running id (places id)
  -- a confirmed record is free, or held by its source
  pub settled : (source id : ℕ) → owner id ≡ source → confirmed source id ≡ true → (places id ≡ place.Free) ⊎ Holds (held source) id
