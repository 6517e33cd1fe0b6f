-- Where a CPU is with the stops.
use Rattle.std.specs.Prelude.{◌≡◌, ℕ, Bool, true, false, ◌==◌, ◌||◌, nat_lt, cond, Some, None}
use Rattle.smp_stop_steps.specs.Stop.{Inside, Answering, Raising, Nobody, Refills, Raises, Last}
use Rattle.smp_stop_steps.specs.{Names.Patch, Names.DISABLE_IRQ, Names.RUN, Names.EXIT, Labels.Patches, State.Present}
pub use Rattle.smp_stop_steps.specs.declared.known.StopRole.{StopRole}
pub use Rattle.smp_stop_steps.specs.declared.known.StopRole.TheVariants.{Free, In, Gives, Alters, Closes}
pub use Rattle.smp_stop_steps.specs.declared.known.Duty.{Duty}
pub use Rattle.smp_stop_steps.specs.declared.known.Duty.TheVariants.{Rests, Fills, Sets}

-- what a CPU is to do for the next phase
abbrev pub duty_of : Raising → ℕ → Duty
duty_of Nobody c = Rests
duty_of (Refills r) c = cond (c == r) Fills Rests
duty_of (Raises r) c = cond (c == r) Sets Rests

-- the CPU is there
abbrev pub RoleStands : Present → ℕ → StopRole → Type 0
RoleStands n me Free = n.inside me ≡ None
RoleStands n me (In s w a l t) = (n.inside me ≡ Some s) × ((n.stop s).standing me ≡ Inside a l) × (duty_of (n.stop s).raising me ≡ t) × ((n.stop s).work ≡ w)
RoleStands n me (Gives s w a v) =
    (n.inside me ≡ Some s) × ((n.stop s).standing me ≡ Answering a v) × (duty_of (n.stop s).raising me ≡ Rests) × ((n.stop s).work ≡ w)
RoleStands n me (Alters s w count made rest) =
    (n.inside me ≡ Some s) × ((n.stop s).standing me ≡ Inside DISABLE_IRQ RUN) × (duty_of (n.stop s).raising me ≡ Rests) ×
    ((n.stop s).work ≡ w) × (w.kind ≡ Patch) × (n.patching ≡ Patches me w count made rest)
RoleStands n me (Closes s) = (n.inside me ≡ None) × ((n.stop s).is_open ≡ true) × ((n.stop s).ending ≡ Last me)

-- interrupts are off from the look at DISABLE_IRQ until the CPU has left
abbrev pub irq_of : StopRole → Bool
irq_of Free = true
irq_of (In s w a l Rests) = nat_lt l DISABLE_IRQ || a == EXIT
irq_of (In s w a l t) = nat_lt l DISABLE_IRQ
irq_of (Gives s w a v) = true
irq_of (Alters s w count made rest) = false
irq_of (Closes s) = true
