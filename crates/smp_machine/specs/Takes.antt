-- What a CPU takes from its own queue.
use Rattle.std.specs.Prelude.{◌≡◌, ◌≢◌, ◌⊎◌, ℕ, Bool, true, false, Option, Some, None}
use Rattle.std.specs.Option.{is_some}
use Rattle.smp_mask.specs.Mask.{has}
use Rattle.smp_words.specs.declared.work.Kind.{Kind}
use Rattle.smp_multi.specs.Answers.{Enters, Misses}
use Rattle.smp_multi.specs.Cpu.{TableValue as StopTableValue, CpuValue as StopCpuValue}
use Rattle.smp_machine.specs.declared.work_queue.Item.{Item}
use Rattle.smp_machine.specs.Passes.{PassesValue, takes, TakenIsShown}
use Rattle.smp_machine.specs.MachineCpu.{MachineValue, MachineCpuValue}

-- the front of the own queue, where there was one: it is taken, with the law of the queue
abbrev pub TakesFront : PassesValue → PassesValue → Option Item → Type 0
TakesFront old new None = new ≡ old
TakesFront old new (Some x) = (new ≡ takes x old) × TakenIsShown new

-- a work of this source is dropped: its roll does not have the CPU, at the one look at it; or it is not looked at, since no such
-- CPU is online, and this one is as it was
abbrev pub Drops : StopTableValue → ℕ → StopCpuValue → StopCpuValue → Type 0
Drops t source old new = Misses t source old new ⊎ ((new ≡ old) × (has old.setting.online source ≡ false))

-- what was taken is entered, by the slot that it names, or is dropped
abbrev pub EntersFront : StopTableValue → StopCpuValue → StopCpuValue → Option Item → Option ℕ → Type 0
EntersFront t old new None None = new ≡ old
EntersFront t old new (Some x) None = Drops t x.slot old new
EntersFront t old new (Some x) (Some slot) = (slot ≡ x.slot) × ((kind : Kind) × Enters t slot old new kind)
EntersFront t old new None (Some slot) = ⊥

-- a CPU with no work in hand takes the front of its queue and enters it: the slot of the stop that it is in then
pub record TakesNext (m : MachineValue) (old new : MachineCpuValue) (slot : Option ℕ) : Type 0 where
  pub calls_are : new.calls ≡ old.calls
  pub heard_are : new.heard_at ≡ old.heard_at
  pub front : Option Item
  pub passes_are : TakesFront old.passes new.passes front
  pub stops_are : EntersFront m.stops old.stops new.stops front slot

-- the same where no work is in hand, and nothing where one is: whether one is then
pub record TakesWork (m : MachineValue) (old new : MachineCpuValue) (there : Bool) : Type 0 where
  pub in_hand : old.stops.inside ≢ None → (new ≡ old) × (there ≡ true)
  pub next : old.stops.inside ≡ None → (slot : Option ℕ) × TakesNext m old new slot × (there ≡ is_some slot)
  pub yes : there ≡ true → new.stops.inside ≢ None
  pub no : there ≡ false → new.stops.inside ≡ None
