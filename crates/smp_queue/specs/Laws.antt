-- What a CPU's value says of running threads.
use Rattle.std.specs.Prelude.{◌≡◌, ℕ, ◌<◌, ◌≤◌, ◌⊎◌, true, false, None, [], slice_index_or}
use Rattle.std.specs.List.{AllByRecursion}
use Rattle.smp_mask.specs.Mask.{has}
use Rattle.smp_words.specs.Size.{cpus, owner, records}
use Rattle.smp_call_steps.specs.Calls.{CallState, no_calls}
use Rattle.smp_call_steps.specs.Counts.{ConfirmedCallsRan}
use Rattle.smp_call_steps.specs.HaveRun.{ConfirmedSyncCallsEnded, HasRunAt}
use Rattle.smp_call_steps.specs.Threads.Known.{told_stage}
use Rattle.smp_call_steps.specs.Threads.Parts.{part_of}
use Rattle.smp_call_steps.specs.Reached.{IsReached}
use Rattle.smp_call_steps.specs.Shows.{Shows}
use Rattle.smp_call_steps.specs.Stages.{ControlValue}
use Rattle.smp_call_steps.specs.declared.place.RecPlace.TheVariants as place
use Rattle.smp_queue.specs.Names.{Word}
use Rattle.smp_queue.specs.Cpu.{CpuValue, cpu_in}

-- each call that this CPU has sent, by a record whose last call it has seen confirmed, has run at its target
abbrev pub HaveRunFor : CallState → CpuValue → Type 0
HaveRunFor a c = AllByRecursion
    (λ sending. slice_index_or c.part.confirmed sending.call.id false ≡ true → HasRunAt a sending.to sending.call sending.call.class) c.part.sent

-- each record of this CPU whose last call it has seen confirmed is free
abbrev pub AreFreeFor : CallState → CpuValue → Type 0
AreFreeFor a c = (id : ℕ) → owner id ≡ c.number → id < records → slice_index_or c.part.confirmed id false ≡ true → a.place id ≡ place.Free

-- a CPU has no call in its queue and no interrupt pending
abbrev pub HasNothingToTake : CallState → ℕ → Type 0
HasNothingToTake a cpu = (a.queue cpu ≡ []) × (a.pending cpu ≡ false)

-- a CPU's queue is empty, or it has an interrupt pending or accepted, or a CPU that is online owes it one
abbrev pub IsSeenTo : ℕ → CallState → ℕ → Type 0
IsSeenTo online a cpu = (a.queue cpu ≡ []) ⊎ ((a.pending cpu ≡ true) ⊎ ((a.accepted cpu ≡ true)
    ⊎ ((source : ℕ) × (has online source ≡ true) × (a.owes source cpu ≡ true))))

-- Some words show calls that are reached and keep all laws, of which this value is one CPU's part, outside a command. The CPU
-- is one of its table and online, and the CPUs that its table does not have, or that are not online, have done nothing. Those
-- that are not online have nothing to take, and a CPU that has a queue is seen to by its interrupt, or by one that is online.
-- Calls by confirmed records have run, those of all CPUs and those of this one.
pub record CallsAreShown (c : CpuValue) : Type 0 where
  pub calls : CallState
  pub at : Word → ℕ
  pub reached : IsReached calls at
  pub controls : ℕ → ControlValue
  pub shown : Shows calls at controls
  pub below : c.number < c.setting.nr
  pub online : has c.setting.online c.number ≡ true
  pub absent : (cpu : ℕ) → c.setting.nr ≤ cpu → part_of calls cpu ≡ part_of no_calls cpu
  pub offline : (cpu : ℕ) → has c.setting.online cpu ≡ false → part_of calls cpu ≡ part_of no_calls cpu
  pub quiet : (cpu : ℕ) → has c.setting.online cpu ≡ false → HasNothingToTake calls cpu
  pub seen_to : (cpu : ℕ) → cpu < cpus → IsSeenTo c.setting.online calls cpu
  pub outside : told_stage (controls c.number).stage ≡ None
  pub are_free : AreFreeFor calls c
  pub confirmed_ran : ConfirmedCallsRan calls
  pub confirmed_ended : ConfirmedSyncCallsEnded calls
  pub have_run : HaveRunFor calls c
  pub view : c ≡ cpu_in c.table c.setting calls c
