-- What a stop promises: the phase law, the function law, and the results of stops.
use Rattle.std.specs.Prelude.{◌≡◌, ◌≢◌, ◌⊎◌, ℕ, true}
use Rattle.smp_stop_steps.specs.Names.{has, DISABLE_IRQ, RUN, EXIT, OVER}
use Rattle.smp_stop_steps.specs.Stop.{Standing, Inside, Answering, Raising, Nobody, Refills, Raises, Stop, acked, is_of}
use Rattle.smp_stop_steps.specs.{Counts.count_behind, Counts.weight, Slots.IsLevel, Slots.IsDone}

-- the phase law, of an open stop of several CPUs: each CPU of the mask has acknowledged the phase or the one before
-- it, at OVER the one before; the count is the number of those that have not acknowledged it, but from the refill until
-- the phase is stored, and at OVER, the weight of the mask
pub record PhaseLaw (cpus : ℕ) (stop : Stop) (ack : ℕ) : Type 0 where
  pub level : (c : ℕ) → is_of (stop.standing c) ≡ true → IsLevel stop.phase (acked (stop.standing c))
  pub at_the_end : (c : ℕ) → stop.phase ≡ OVER → is_of (stop.standing c) ≡ true → acked (stop.standing c) ≡ EXIT
  pub counted : (ack ≡ count_behind cpus stop.phase stop.standing) ⊎ ((r : ℕ) × (stop.raising ≡ Raises r) × (ack ≡ weight cpus stop.standing))
  pub whole : stop.phase ≡ OVER → ack ≡ weight cpus stop.standing

-- the function law, of a CPU that has looked at RUN and not acknowledged it: it is of the mask, the phase is RUN, and
-- every CPU of the mask has acknowledged DISABLE_IRQ, in which interrupts are turned off
pub record FunctionLaw (stop : Stop) (me : ℕ) : Type 0 where
  pub of_it : has stop.work.mask me ≡ true
  pub at_run : stop.phase ≡ RUN
  pub all_disabled : (c : ℕ) → has stop.work.mask c ≡ true → (acked (stop.standing c) ≡ DISABLE_IRQ) ⊎ (acked (stop.standing c) ≡ RUN)
  pub not_acknowledged : acked (stop.standing me) ≡ DISABLE_IRQ

-- the result of these answers of a mask: 0 where all are 0, else one of those that are not
abbrev pub IsResult : ℕ → (ℕ → ℕ) → ℕ → Type 0
IsResult mask answer result =
    ((result ≡ 0) × ((c : ℕ) → has mask c ≡ true → answer c ≡ 0)) ⊎ ((result ≢ 0) × ((c : ℕ) × (has mask c ≡ true) × (answer c ≡ result)))

-- the CPU is not the one that sets the next phase
abbrev pub IsNot : ℕ → Raising → Type 0
IsNot me Nobody = Unit {0}
IsNot me (Refills r) = r ≢ me
IsNot me (Raises r) = r ≢ me

-- it may complete: it is through all phases, and has not to set the next one
abbrev pub IsThrough : Stop → ℕ → ℕ → Type 0
IsThrough stop me a = IsDone stop.phase a × IsNot me stop.raising

-- the CPU's answer, where it is ready to be counted: that in the result word, or 0
abbrev pub IsAnswer : Standing → ℕ → ℕ → Type 0
IsAnswer (Inside b l) a v = (b ≡ a) × (v ≡ 0)
IsAnswer (Answering b w) a v = (b ≡ a) × (v ≡ w)
IsAnswer _ a v = ⊥
