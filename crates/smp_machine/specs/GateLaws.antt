-- When a CPU takes the gate and gives it up, move by move.
use Rattle.std.specs.List.{AllByRecursion}
use Rattle.std.specs.Prelude.{◌≡◌, ◌≢◌, ◌⊎◌, ◌<◌, ℕ, ◌+◌, ℤ, Bool, true, if◌then◌else◌, Some, List, [], ◌∷◌, ◌++◌, length}
use Rattle.smp_mask.specs.Mask.{has, members_below}
use Rattle.smp_words.specs.Size.{cpus}
use Rattle.smp_labels.specs.Keys.{is_on}
use Rattle.smp_queue.specs.declared.handler.Heard.{Heard}
use Rattle.smp_multi.specs.Cpu.{TableValue}
use Rattle.smp_multi.specs.Names.{Work, OwnMove}
use Rattle.smp_multi.specs.declared.func.Called.{Called}
use Rattle.smp_stop_steps.specs.declared.known.OwnMove.TheVariants.{Took, Gave, Began, Collected, Found, Lost}
use Rattle.smp_machine.specs.Counts.{HasNudged, HasFoundEdge, HasPatched}
use Rattle.smp_machine.specs.Keys.{KeyStands, TurnsKey}
use Rattle.smp_machine.specs.Moves.{told, short_stop, long_stop, LooksUpTo}
use Rattle.smp_machine.specs.Own.{own_of}
use Rattle.smp_machine.specs.Passes.{noted_to, total}
use Rattle.smp_machine.specs.declared.work_queue.PutNote.{PutNote}
use Rattle.smp_machine.specs.MachineCpu.{MachineCpuValue}
use Rattle.smp_machine.specs.Stops.{HasStopped}
use Rattle.smp_machine.specs.Works.{Works}

-- since then a CPU has made just these moves, but for tries of the gate that have found a holder, and for looks at done that have
-- found it not set
pub record HasDone (moves : List OwnMove) (old new : MachineCpuValue) : Type 0 where
  pub since : List OwnMove
  pub moves_are : new.stops.moves ≡ old.stops.moves ++ since
  pub told_are : told since ≡ moves

-- a look at key k, or a try to nudge it that was lost
abbrev pub IsTryOf : ℕ → OwnMove → Type 0
IsTryOf k (Found key count) = key ≡ k
IsTryOf k (Lost key) = key ≡ k
IsTryOf k _ = ⊥

-- looks at key k, of which the last has found this count
pub record EndAt (k count : ℕ) (moves : List OwnMove) : Type 0 where
  pub before : List OwnMove
  pub tries : AllByRecursion (IsTryOf k) before
  pub are : moves ≡ before ++ Found k count ∷ []

-- the count at which one up turns a key on, and one down turns it off; and that at which neither can be
abbrev pub turning : Bool → ℕ
turning up = if up then 0 else 1

abbrev pub last_one : Bool → ℕ
last_one up = if up then 65535 else 0

-- without the gate, looks up to one that has found this count
pub record HasLooked (k count : ℕ) (old new : MachineCpuValue) : Type 0 where
  pub looks : List OwnMove
  pub found : EndAt k count looks
  pub done : HasDone looks old new

-- looks up to one that has found the key about to turn; with the gate taken then, looks up to one that has found this count; and the
-- gate is given up
pub record HasLookedAgain (k : ℕ) (up : Bool) (count : ℕ) (old new : MachineCpuValue) : Type 0 where
  pub first : List OwnMove
  pub again : List OwnMove
  pub found : EndAt k (turning up) first
  pub found_again : EndAt k count again
  pub done : HasDone (first ++ Took ∷ (again ++ Gave ∷ [])) old new

-- looks up to one that has found the key about to turn, with the gate taken then the same again, and then a patch, with the gate held
-- until its result is collected
pub record HasTurned (k : ℕ) (up : Bool) (work : Work) (word : ℕ) (old new : MachineCpuValue) : Type 0 where
  pub first : List OwnMove
  pub again : List OwnMove
  pub found : EndAt k (turning up) first
  pub found_again : EndAt k (turning up) again
  pub done : HasDone (first ++ Took ∷ (again ++ Began work ∷ Collected word ∷ Gave ∷ [])) old new

-- what is noted with the put of this work into the queue of CPU c: the gate was held, the own stop was that of the work, and all
-- CPUs of its mask below c were put to before
abbrev pub noted_at_gate : Work → MachineCpuValue → ℕ → PutNote
noted_at_gate work old c = record { gate = true; stop = Some work; before = total old.passes.put + length (members_below work.mask c) }

-- since then this is noted once for each CPU of the mask of this work, and nothing else
abbrev pub HasQueued : Work → MachineCpuValue → MachineCpuValue → Type 0
HasQueued work old new = (c : ℕ) → c < cpus
    → noted_to new.passes c ≡ noted_to old.passes c ++ (if has work.mask c then noted_at_gate work old c ∷ [] else [])

-- the moves of each stop, and of each change of a key
pub record GateIsHeld {H F : Type 0} (hears : H → Heard → H → Type 0) (runs : F → Called → F → Type 0) : Type 0 where
  -- of turn and poll: none
  pub polls : (old new : MachineCpuValue) (h h' : H) (f f' : F) → Works hears runs old h f new h' f' (own_of old) → HasDone [] old new
  -- of stop_one and stop_two
  pub short : (work : Work) (old new : MachineCpuValue) (h h' : H) (f f' : F) (answer : ℤ)
      → (s : HasStopped hears runs short_stop work old h f new h' f' answer) → HasDone (Took ∷ Began work ∷ Gave ∷ Collected s.word ∷ []) old new
  -- of stop_machine
  pub long : (work : Work) (old new : MachineCpuValue) (h h' : H) (f f' : F) (answer : ℤ)
      → (s : HasStopped hears runs long_stop work old h f new h' f' answer) → HasDone (Took ∷ Began work ∷ Collected s.word ∷ Gave ∷ []) old new
  -- of each stop and of each patch: its puts
  pub queued : (moves : Work → ℕ → List OwnMove) (work : Work) (old new : MachineCpuValue) (h h' : H) (f f' : F) (answer : ℤ)
      → HasStopped hears runs moves work old h f new h' f' answer → length old.passes.put ≡ cpus → length old.passes.noted ≡ cpus → HasQueued work old new
  -- of set_key
  pub stands : (k : ℕ) (on : Bool) (old new : MachineCpuValue) (h h' : H) (f f' : F) → KeyStands hears runs k on old h f new h' f'
      → (count : ℕ) × (is_on count ≡ on) × HasDone (Took ∷ Found k count ∷ Gave ∷ []) old new
  pub turns : (t : TableValue) (k : ℕ) (on : Bool) (old new : MachineCpuValue) (h h' : H) (f f' : F) → (s : TurnsKey hears runs t k on old h f new h' f')
      → (count : ℕ) × (is_on count ≢ on) × HasDone (Took ∷ Found k count ∷ Began s.work ∷ Collected s.stopped.word ∷ Gave ∷ []) old new
  -- of key_inc and key_dec
  pub nudged : (k : ℕ) (up : Bool) (old new : MachineCpuValue) (h h' : H) (f f' : F) → HasNudged hears runs (LooksUpTo k up) k up old h f new h' f'
      → (count : ℕ) × (count ≢ turning up) × (count ≢ last_one up)
      × (HasLooked k count old new ⊎ HasLookedAgain k up count old new)
  pub refused : (k : ℕ) (up : Bool) (old new : MachineCpuValue) (h h' : H) (f f' : F) → HasFoundEdge hears runs (LooksUpTo k up) k up old h f new h' f'
      → HasLooked k (last_one up) old new ⊎ HasLookedAgain k up (last_one up) old new
  pub patched : (t : TableValue) (k : ℕ) (up : Bool) (old new : MachineCpuValue) (h h' : H) (f f' : F) (answer : ℤ)
      → (p : HasPatched hears runs (LooksUpTo k up) t k up old h f new h' f' answer) → HasTurned k up p.patches.work p.patches.stopped.word old new
