-- Stops that words show keep all laws.
use Rattle.std.proofs.Common.{ℕ}
use Rattle.smp_stop_steps.specs.{StopRole, StopShows, Source, Setup, StopState, KeepsStopLaws, Word, Slot}
use Rattle.smp_stop_steps.proofs.Promises.Functions.{last_stores, has_functions, runs_alone}
use Rattle.smp_stop_steps.proofs.State.Patched.{lawful_when_on, off_while_patched}
use Rattle.smp_stop_steps.proofs.{Promises.Interrupts.interrupt_law, Promises.Patchers.is_lawful, Promises.Patchers.has_patcher, State.Raises.phase_law}

module _ (u : Setup) (p : StopState) (at : Word → ℕ) (seat : ℕ → StopRole) (source : ℕ → Source) (h : StopShows u p at seat source) where
  pub keeps_laws : KeepsStopLaws u p at
  keeps_laws = record {
    phases = λ s op busy. phase_law u.cpus (p.now.stop s) (λ f. at (Slot s f)) (h.present.slots s) op busy;
    interrupts = λ c. interrupt_law u p at seat source h c;
    functions = runs_alone u p at seat source h;
    calls = has_functions u p at seat source h;
    closing = λ s op none undone. let l = last_stores u p at seat source h s op none undone in (l.0, (l.1.ending, l.1.completed));
    lawful = λ e. is_lawful u p at seat source h e;
    patchers = λ d work count made rest e. has_patcher u p at seat source h d work count made rest e;
    patches = λ d work count made rest is me online. off_while_patched u p.now at seat h.present me online d work count made rest is;
    labels = λ me online on. record { lawful = lawful_when_on u p.now at seat h.present me online on; agrees = h.present.read me online on };
    counts = h.counts;
  }
