-- What became of the works that a CPU has taken from its queue.
use Rattle.std.specs.List.{AllByRecursion}
use Rattle.std.specs.Prelude.{◌≡◌, ℕ, ◌+◌, ◌<◌, ◌==◌, ◌&&◌, Bool, true, false, if◌then◌else◌, Option, Some, None}
use Rattle.std.specs.Prelude.{List, [], ◌∷◌, ◌++◌, length, map, slice_index_or}
use Rattle.smp_mask.specs.Mask.{has}
use Rattle.smp_multi.specs.Cpu.{CpuValue as StopCpuValue, Inside}
use Rattle.smp_multi.specs.Names.{Attempt}
use Rattle.smp_machine.specs.declared.work_queue.Item.{Item}
use Rattle.smp_machine.specs.MachineCpu.{MachineCpuValue}

-- what became of a work: its stop was entered; the one look at its roll was in vain; or it was not looked at
pub data Fate : Type 0 where
  Entered : Fate
  Missed : Fate
  Unseen : Fate

-- a work that was taken, and what became of it
pub record Service : Type 0 where
  pub item : Item
  pub fate : Fate

abbrev pub is_entered : Fate → Bool
is_entered Entered = true
is_entered _ = false

abbrev pub one_if : Bool → ℕ
one_if b = if b then 1 else 0

-- one where the CPU is in a stop of this source, else none
abbrev pub in_hand : ℕ → Option Inside → ℕ
in_hand source None = 0
in_hand source (Some stop) = one_if (stop.slot == source)

-- in how many stops of a source a CPU has been: those that it has completed, and the one that it is in
abbrev pub visits : ℕ → StopCpuValue → ℕ
visits source c = length (slice_index_or c.part.answers source []) + in_hand source c.inside

-- how many of these works are of this source and were entered
abbrev pub entries : ℕ → List Service → ℕ
entries source [] = 0
entries source (s ∷ more) = one_if (is_entered s.fate && s.item.slot == source) + entries source more

-- the attempts to enter the stop of this slot that it comes to
abbrev pub attempts_as : ℕ → Fate → List Attempt
attempts_as slot Entered = record { slot = slot; entered = true } ∷ []
attempts_as slot Missed = record { slot = slot; entered = false } ∷ []
attempts_as slot Unseen = []

-- one for each of these works, at its own slot, in order; none for a work that was not looked at
abbrev pub attempts_for : List Service → List Attempt
attempts_for [] = []
attempts_for (s ∷ more) = attempts_as s.item.slot s.fate ++ attempts_for more

-- only a work of a source that is not online is not looked at
abbrev pub IsLookedAt : ℕ → Service → Type 0
IsLookedAt online s = s.fate ≡ Unseen → has online s.item.slot ≡ false

-- the first list is the beginning of the second
abbrev pub IsBeginning : {A : Type 0} → List A → List A → Type 0
IsBeginning {A} old new = (more : List A) × (new ≡ old ++ more)

-- a CPU at a later time: what it has begun, collected, called and done at the gate, at its own stop and at keys is still there
pub record IsLater (old new : StopCpuValue) : Type 0 where
  pub table_is : new.table ≡ old.table
  pub setting_is : new.setting ≡ old.setting
  pub number_is : new.number ≡ old.number
  pub begun : IsBeginning old.part.begun new.part.begun
  pub collected : IsBeginning old.part.collected new.part.collected
  pub calls : IsBeginning old.part.calls new.part.calls
  pub moves : IsBeginning old.moves new.moves

-- a CPU that has entered no stop, and that has lost none
pub record KeepsVisits (old new : StopCpuValue) : Type 0 where
  pub sized : length new.part.answers ≡ length old.part.answers
  pub visits_are : (source : ℕ) → source < length old.part.answers → visits source new ≡ visits source old

-- All works that a CPU has taken meanwhile were served: since then it has tried to enter the stop of each, once, in the order in
-- which it has taken them, and no other; and of each source as many were entered as it has completed since, or has in hand.
pub record Serves (old new : MachineCpuValue) : Type 0 where
  pub served : List Service
  pub taken_are : new.passes.taken ≡ old.passes.taken ++ map (λ s. s.item) served
  pub sized : length new.stops.part.answers ≡ length old.stops.part.answers
  pub visits_are : (source : ℕ) → source < length old.stops.part.answers → visits source new.stops ≡ visits source old.stops + entries source served
  pub attempts_are : new.stops.attempts ≡ old.stops.attempts ++ attempts_for served
  pub looked_at : AllByRecursion (IsLookedAt old.stops.setting.online) served
