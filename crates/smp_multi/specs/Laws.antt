-- What a CPU's value says of running threads.
use Rattle.std.specs.Prelude.{◌≡◌, ◌≢◌, ℕ, true, false, Option, Some, None}
use Rattle.smp_mask.specs.Mask.{has}
use Rattle.smp_words.specs.Put.{put}
use Rattle.smp_stop_steps.specs.Threads.Known.{Sees, setup_in}
use Rattle.smp_stop_steps.specs.Shows.{StopShows}
use Rattle.smp_stop_steps.specs.State.{Present, StopState}
use Rattle.smp_stop_steps.specs.Stop.{Stop, acked}
use Rattle.smp_stop_steps.specs.StopLaws.{KeepsStopLaws}
use Rattle.smp_words.specs.declared.phase.TheConstants.{DISABLE_IRQ, RUN}
use Rattle.smp_multi.specs.Names.{Word, Gate, Slot, Key, Work, StopRole, In, Alters, Source, KnownStops}
use Rattle.smp_multi.specs.Names.field
use Rattle.smp_multi.specs.Cpu.{CpuValue, Inside, cpu_of}
use Rattle.smp_multi.specs.Lives.{Lives, StaysWithin}
use Rattle.smp_multi.specs.Rounds.{AloneWhile}

-- the CPU is in this stop, which has this work, and this is the last phase that it has acknowledged
abbrev pub IsInside : Present → ℕ → Option Inside → Type 0
IsInside n me None = n.inside me ≡ None
IsInside n me (Some x) = (n.inside me ≡ Some x.slot) × ((n.stop x.slot).work ≡ x.work) × (acked ((n.stop x.slot).standing me) ≡ x.acked)

-- a source's stop is open, with this work, or is not
abbrev pub IsPending : Stop → Option Work → Type 0
IsPending stop None = stop.is_open ≡ false
IsPending stop (Some w) = (stop.is_open ≡ true) × (stop.work ≡ w)

-- some words of the table show stops that keep all laws, and this value is what a CPU knows that knows its part of them:
-- it is in the stop that the value has, its interrupts are on or off and its own stop is pending as the value says, it has
-- made the value's calls of stop functions, and carries the answer of the last one, which no words tell. But for these calls
-- and that answer, these stops and words are reached. CPUs that are not online have done nothing
pub record StopsAreShown (c : CpuValue) : Type 0 where
  pub stops : StopState
  pub at : Word → ℕ
  pub seat : ℕ → StopRole
  pub source : ℕ → Source
  pub shown : StopShows (setup_in c.setting) stops at seat source
  pub laws : KeepsStopLaws (setup_in c.setting) stops at
  pub within : StaysWithin c.setting stops at seat source
  pub known : KnownStops
  pub lives : Lives known
  pub words : at ≡ lives.at
  pub alike : stops ≡ record (lives.stops) {
    calls = put lives.stops.calls c.number c.part.calls;
    calling = put lives.stops.calling c.number c.part.calling;
  }
  pub sees : Sees stops seat source known
  pub view : c ≡ cpu_of (record { table = c.table; known = known })
  pub inside : IsInside stops.now c.number c.inside
  pub irq : stops.now.irq c.number ≡ c.irq
  pub pending : IsPending (stops.now.stop c.number) c.pending
  pub calls : stops.calls c.number ≡ c.part.calls
  pub calling : stops.calling c.number ≡ c.part.calling

-- a word had this number when the CPU's value was this: some words of the table show stops of which it is the CPU's part
pub record Finds (c : CpuValue) (word : Word) (number : ℕ) : Type 0 where
  pub shown : StopsAreShown c
  pub found : shown.at word ≡ number

-- key k had this count
abbrev pub FindsCount : CpuValue → ℕ → ℕ → Type 0
FindsCount c k count = Finds c (Key k) count

-- somebody held the gate
abbrev pub FindsHeld : CpuValue → Type 0
FindsHeld c = (n : ℕ) × Finds c Gate n × (n ≢ 0)

-- the roll of a slot did not have the CPU
abbrev pub FindsNoCall : CpuValue → ℕ → Type 0
FindsNoCall c slot = (roll : ℕ) × Finds c (Slot slot field.Roll) roll × (has roll c.number ≡ false)

-- a CPU in the stop of this slot that has looked at RUN and has not acknowledged it: it calls its function, or makes its
-- patch
abbrev pub IsAtRun : StopRole → ℕ → Type 0
IsAtRun (In s w a l t) slot = (s ≡ slot) × (a ≡ DISABLE_IRQ) × (l ≡ RUN)
IsAtRun (Alters s w count made rest) slot = s ≡ slot
IsAtRun _ slot = ⊥

-- the function law for running threads: as long as a CPU knows that it is there, its function runs alone
abbrev pub FunctionsRunAlone : Type 0
FunctionsRunAlone = (v : KnownStops) (slot : ℕ) → IsAtRun v.seat slot → AloneWhile v slot
