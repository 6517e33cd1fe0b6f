-- When a CPU's interrupts are off.
use Rattle.std.specs.Prelude.{◌≡◌, ◌≢◌, ℕ, ◌≤◌, true, false, None}
use Rattle.smp_stop_steps.specs.Names.{DISABLE_IRQ, EXIT, Word}
use Rattle.smp_stop_steps.specs.{Seats.StopRole, Seats.Rests, Seats.duty_of, Shows.StopShows, Sources.Source, State.Setup}
use Rattle.smp_stop_steps.specs.{State.StopState, Stop.Stop, Stop.Inside}

-- the CPU has not left the stop: it has not acknowledged EXIT, or is to set the phase after it
abbrev pub HasNotLeft : Stop → ℕ → ℕ → Type 0
HasNotLeft stop c a = a ≡ EXIT → duty_of stop.raising c ≢ Rests

-- interrupts are off from the look at DISABLE_IRQ, so also once that is acknowledged, until the CPU has left; in no stop
-- they are on
pub record InterruptLaw (p : StopState) (c : ℕ) : Type 0 where
  pub off : (s a l : ℕ) → (p.now.stop s).standing c ≡ Inside a l → DISABLE_IRQ ≤ l → HasNotLeft (p.now.stop s) c a → p.now.irq c ≡ false
  pub acknowledged : (s a l : ℕ) → (p.now.stop s).standing c ≡ Inside a l → DISABLE_IRQ ≤ a → HasNotLeft (p.now.stop s) c a → p.now.irq c ≡ false
  pub on : p.now.inside c ≡ None → p.now.irq c ≡ true

abbrev pub KeepTheInterruptLaw : Type 0
KeepTheInterruptLaw = (u : Setup) (p : StopState) (at : Word → ℕ) (seat : ℕ → StopRole) (source : ℕ → Source) → StopShows u p at seat source → (c : ℕ) →
    InterruptLaw p c
