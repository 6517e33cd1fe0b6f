-- All laws of the stop half, of these stops and these words.
use Rattle.std.specs.Prelude.{◌≡◌, ◌≢◌, ℕ, true}
use Rattle.smp_stop_steps.specs.{Names.DISABLE_IRQ, Names.RUN, Closings.HasLast, Patchers.HasPatcher, Promises.RunsAlone, Promises.ReadsLawful, Shows.StopShows}
use Rattle.smp_stop_steps.specs.{Names.Word, Names.Slot, Names.Key, Laws.PhaseLaw, Seats.StopRole, Sources.Source, State.Setup, State.StopState, Stop.Inside}
use Rattle.smp_stop_steps.specs.{Functions.HasFunctions, Interrupts.InterruptLaw, KeyCounts.CountShows, Patchers.IsLawfulOutside, Promises.IsPatchedAlone}
use Rattle.smp_stop_steps.specs.Names.field

pub record KeepsStopLaws (u : Setup) (p : StopState) (at : Word → ℕ) : Type 0 where
  -- the phase law, of each open stop of several CPUs
  pub phases : (s : ℕ) → (p.now.stop s).is_open ≡ true → (p.now.stop s).phase ≢ 0 → PhaseLaw u.cpus (p.now.stop s) (at (Slot s field.Ack))
  pub interrupts : (c : ℕ) → InterruptLaw p c
  -- the function law: who has looked at RUN and not acknowledged it
  pub functions : (s me : ℕ) → (p.now.stop s).standing me ≡ Inside DISABLE_IRQ RUN → RunsAlone p s me
  pub calls : HasFunctions p
  -- where all have completed and done is not stored, the last to complete is to store it
  pub closing : HasLast p at
  -- the label law: the table, who patches it, and what was read
  pub lawful : IsLawfulOutside p at
  pub patchers : HasPatcher u p
  pub patches : IsPatchedAlone u p
  pub labels : (me : ℕ) → u.online me ≡ true → p.now.irq me ≡ true → ReadsLawful p at me
  -- the count law
  pub counts : (k : ℕ) → CountShows u.cpus p.nudged p.patched k (at (Key k))

abbrev pub KeepTheStopLaws : Type 0
KeepTheStopLaws = (u : Setup) (p : StopState) (at : Word → ℕ) (seat : ℕ → StopRole) (source : ℕ → Source) → StopShows u p at seat source → KeepsStopLaws u p at
