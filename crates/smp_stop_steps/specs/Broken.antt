-- States of stops, and words, that break the headline: no core shows them.
use Rattle.std.specs.Prelude.{ℕ, ◌==◌, Bool, true, false, cond, Some, []}
use Rattle.smp_stop_steps.specs.Names.{Kind, Multi, Patch, Word, Entry, Site, DISABLE_IRQ, RUN, PREPARE}
use Rattle.smp_stop_steps.specs.{Labels.Patches, State.StopState, State.no_stops, State.no_present, State.Calls}
use Rattle.smp_stop_steps.specs.Standings.{Standing, Inside, Nobody, Running, Stop}

-- a stop of this kind at RUN, with this mask and these active CPUs
abbrev pub stop_at_run : Kind → ℕ → ℕ → (ℕ → Standing) → Stop
stop_at_run kind mask active standing = record {
  is_open = true;
  work = record { kind = kind; mask = mask; active = active; func = 0; arg = 0 };
  phase = RUN;
  standing = standing;
  raising = Nobody;
  ending = Running;
}

-- each CPU has acknowledged DISABLE_IRQ; or CPU 0 the phase before it alone
abbrev pub all_disabled : ℕ → Standing
all_disabled cpu = Inside DISABLE_IRQ RUN

abbrev pub one_prepared : ℕ → Standing
one_prepared cpu = cond (cpu == 0) (Inside PREPARE PREPARE) (Inside DISABLE_IRQ RUN)

-- each CPU is inside this stop of CPU 0, and its interrupts are as given
abbrev pub inside : Stop → (ℕ → Bool) → StopState
inside stop irq = record no_stops { now = record no_present { stop = λ source. stop; inside = λ cpu. Some 0; irq = irq } }

-- CPU 1 runs the function of this rendezvous
abbrev pub runs_in : Stop → (ℕ → Bool) → StopState
runs_in stop irq = record (inside stop irq) { calling = λ cpu. Calls (record { func = 0; arg = 0; answer = 0 }) }

-- it is not of the mask, {0}; it is not active, as CPU 0 is; CPU 0 has not acknowledged; the interrupts of CPU 0 are on
abbrev pub runs_outside : StopState
runs_outside = runs_in (stop_at_run Multi 1 2 all_disabled) (λ cpu. false)

abbrev pub runs_inactive : StopState
runs_inactive = runs_in (stop_at_run Multi 3 1 all_disabled) (λ cpu. false)

abbrev pub runs_early : StopState
runs_early = runs_in (stop_at_run Multi 3 2 one_prepared) (λ cpu. false)

abbrev pub runs_interrupted : StopState
runs_interrupted = runs_in (stop_at_run Multi 3 2 all_disabled) (λ cpu. cpu == 0)

-- CPU 1 makes a patch, while the interrupts of CPU 0 are on
abbrev pub patches_interrupted : StopState
patches_interrupted =
    let stop = stop_at_run Patch 3 2 all_disabled in
    let now = (inside stop (λ cpu. cpu == 0)).now in
    record no_stops { now = record now { patching = Patches 1 stop.work 0 [] [] } }

-- site 0 has key 0, which is off, and it jumps only where that is on; but it jumps
abbrev pub turned_site : Word → ℕ
turned_site (Entry i) = cond (i == 0) 1 0
turned_site (Site i) = cond (i == 0) 1 0
turned_site w = 0
