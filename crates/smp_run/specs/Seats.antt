-- A CPU of a machine, between two lines of its script.
use Rattle.std.specs.List.{AllByRecursion}
use Rattle.std.specs.Prelude.{◌≡◌, ℕ, true, None, List, length}
use Rattle.smp_mask.specs.Mask.{has}
use Rattle.smp_queue.specs.Laws.{CallsAreShown}
use Rattle.smp_multi.specs.Laws.{StopsAreShown}
use Rattle.smp_machine.specs.MachineCpu.{MachineValue, MachineCpuValue, IsAt}
use Rattle.smp_script.specs.declared.directive.Directive.{Directive}
use Rattle.smp_script.specs.declared.mode.Mode.TheVariants.{Run}
use Rattle.smp_script.specs.Spelling.{DirectiveFits}

-- it is online at this machine, and in no stop
pub record IsSeated (m : MachineValue) (p : MachineCpuValue) : Type 0 where
  pub at : IsAt m p
  pub free : p.stops.inside ≡ None
  pub online : has m.calls.online p.calls.number ≡ true

-- it is still there, after what it has called
pub record IsStill (m : MachineValue) (old new : MachineCpuValue) : Type 0 where
  pub seated : IsSeated m new
  pub number_is : new.calls.number ≡ old.calls.number

-- words of both tables show what it knows, and keep all laws
pub record SeatIsShown (p : MachineCpuValue) : Type 0 where
  pub calls : CallsAreShown p.calls
  pub stops : StopsAreShown p.stops

-- the keys of a machine
abbrev pub keys_at : MachineValue → ℕ
keys_at m = m.stops.setting.labels.keys

-- and its sites
abbrev pub sites_at : MachineValue → ℕ
sites_at m = length m.stops.setting.labels.entries

-- these are lines of a run with these CPUs online
abbrev pub AreLines : ℕ → List Directive → Type 0
AreLines online lines = AllByRecursion (DirectiveFits Run online) lines

-- this is one
abbrev pub IsRunLine : ℕ → Directive → Type 0
IsRunLine online line = DirectiveFits Run online line
