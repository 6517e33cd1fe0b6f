-- A machine, and a CPU of it.
use Rattle.std.specs.Prelude.{◌≡◌, ◌≢◌, ◌<◌, ◌-◌, ◌==◌, ◌||◌, nat_lt, ℕ, Bool, false, true, Option, Some, None, IfSome}
use Rattle.std.specs.Prelude.{List, [], ◌++◌, length, replicate, slice_index_or, slice_set}
use Rattle.atomic_table.specs.Seated.{TableId}
use Rattle.smp_mask.specs.Mask.{has}
use Rattle.smp_words.specs.Limits.{AreLimits}
use Rattle.smp_words.specs.declared.phase.TheConstants.{DISABLE_IRQ, EXIT}
use Rattle.smp_queue.specs.Cpu.{TableValue as CallTableValue, CpuValue as CallCpuValue, fresh_cpu as fresh_calls}
use Rattle.smp_multi.specs.Cpu.{TableValue as StopTableValue, CpuValue as StopCpuValue, Inside, fresh_cpu as fresh_stops, IsAt as IsAtStops}
use Rattle.smp_multi.specs.Names.{Kind, One}
use Rattle.smp_machine.specs.Passes.{PassesValue, fresh_passes}

-- a machine: both tables, and the names of the stopper queues
pub record MachineValue : Type 0 where
  pub calls : CallTableValue
  pub stops : StopTableValue
  pub queues : List TableId

-- a CPU: its part of the calls, of the stops and of the queues, and what was noted at each look at its own interrupt word: how many
-- looks at phases of stops it had made by then
pub record MachineCpuValue : Type 0 where
  pub calls : CallCpuValue
  pub stops : StopCpuValue
  pub passes : PassesValue
  pub heard_at : List ℕ

-- what is noted once a CPU's part of the calls was this before and is that now: the same at each look since
abbrev pub notes_looks : CallCpuValue → CallCpuValue → StopCpuValue → List ℕ → List ℕ
notes_looks before after stops heard = heard ++ replicate (length after.part.asked - length before.part.asked) (length stops.part.looks)

-- both tables have the same CPUs, within the limits
pub record IsMachine (m : MachineValue) : Type 0 where
  pub nr : m.stops.nr ≡ m.calls.nr
  pub online : m.stops.setting.online ≡ m.calls.online
  pub limits : AreLimits m.calls.nr m.calls.online

-- the CPU is one of this machine
pub record IsAt (m : MachineValue) (p : MachineCpuValue) : Type 0 where
  pub calls : p.calls.table ≡ m.calls.table
  pub stops : IsAtStops m.stops p.stops
  pub queues : p.passes.queues ≡ m.queues

-- a CPU that has left its stop has completed it too
abbrev pub HasNotLeft : Option Inside → Type 0
HasNotLeft None = Unit {0}
HasNotLeft (Some stop) = stop.acked ≢ EXIT

-- whether interrupts are on after a look at this phase: off from DISABLE_IRQ on, until EXIT
abbrev pub on_at : ℕ → Bool
on_at p = nat_lt p DISABLE_IRQ || p == EXIT

-- and whether they are so in a stop of this kind, with this phase acknowledged: a stop of one CPU leaves them on
abbrev pub on_in : Kind → ℕ → Bool
on_in One p = true
on_in _ p = on_at p

-- in this stop, or in none
abbrev pub on_there : Option Inside → Bool
on_there None = true
on_there (Some stop) = on_in stop.work.kind stop.acked

-- its parts are of one CPU, it is between two turns, and its interrupts are off only in a stop, from DISABLE_IRQ on
pub record IsMachineCpu (p : MachineCpuValue) : Type 0 where
  pub stops_number : p.stops.number ≡ p.calls.number
  pub passes_number : p.passes.number ≡ p.calls.number
  pub not_left : HasNotLeft p.stops.inside
  pub irq_is : p.stops.irq ≡ on_there p.stops.inside

-- between two calls of a user the CPU does not hold the gate, and no stop of its own is left to collect
pub record IsQuiet (p : MachineCpuValue) : Type 0 where
  pub gate : p.stops.part.holds ≡ false
  pub collected : p.stops.pending ≡ None

-- a CPU that has done nothing
abbrev pub fresh_place : MachineValue → ℕ → MachineCpuValue
fresh_place m cpu = record {
  calls = fresh_calls m.calls cpu;
  stops = fresh_stops m.stops.table m.stops.setting cpu;
  passes = fresh_passes m.queues cpu;
  heard_at = [];
}

-- a CPU of this machine that is online and has done nothing
pub record IsFresh (m : MachineValue) (p : MachineCpuValue) : Type 0 where
  pub online : has m.calls.online p.calls.number ≡ true
  pub is : p ≡ fresh_place m p.calls.number

-- the machine whose CPUs are given out, and which of these are left
pub record BootValue : Type 0 where
  pub machine : MachineValue
  pub left : List Bool

-- whether the CPU of a number is left
abbrev pub is_left : BootValue → ℕ → Bool
is_left b cpu = slice_index_or b.left cpu false

-- without the CPU of a number
abbrev pub given : ℕ → BootValue → BootValue
given cpu b = record b { left = slice_set b.left cpu false }

-- each CPU that is online waits fresh, or was given out
pub record AreWaiting (m : MachineValue) (online : ℕ) (waiting : List (Option MachineCpuValue)) : Type 0 where
  pub online_is : online ≡ m.calls.online
  pub sized : (cpu : ℕ) → has online cpu ≡ true → cpu < length waiting
  pub fresh_are : (cpu : ℕ) → has online cpu ≡ true → IfSome (slice_index_or waiting cpu None) (λ c. c ≡ fresh_place m cpu)

-- all CPUs of the machine that are online are left
pub record IsFull (b : BootValue) (m : MachineValue) : Type 0 where
  pub machine_is : b.machine ≡ m
  pub left_are : (cpu : ℕ) → has m.calls.online cpu ≡ true → is_left b cpu ≡ true
