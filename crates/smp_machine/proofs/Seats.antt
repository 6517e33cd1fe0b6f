-- A CPU of a machine stays there, whatever it calls.
use Rattle.std.proofs.Common.{◌≡◌, ℕ, ℤ, Bool, true, false, inl, inr, Result, Ok, Err, List, IfOk, IfErr, sym, ap, subst, ◌∙◌}
use Rattle.smp_mask.specs.declared.error.SmpError.{SmpError}
use Rattle.smp_mask.specs.declared.error.SmpError.TheVariants as error
use Rattle.smp_queue.specs.Cpu.{CpuValue as CallCpuValue}
use Rattle.smp_queue.specs.declared.handler.Heard.{Heard}
use Rattle.smp_multi.specs.Cpu.{TableValue, IsAt as IsAtStops}
use Rattle.smp_multi.specs.Names.{OwnMove, Work}
use Rattle.smp_multi.specs.declared.func.Called.{Called}
use Rattle.smp_machine.specs.Calls.{KeepsStops}
use Rattle.smp_machine.specs.Counts.{CountsOr}
use Rattle.smp_machine.specs.Keys.{Sets}
use Rattle.smp_machine.specs.Own.{Own}
use Rattle.smp_machine.specs.Passes.{PassesValue}
use Rattle.smp_machine.specs.MachineCpu.{MachineValue, MachineCpuValue, IsAt}
use Rattle.smp_machine.specs.Stops.{HasStopped, RefusedStill}
use Rattle.smp_machine.specs.Works.{Works}
use Rattle.smp_machine.proofs.Works.{at_still}

-- it is the same CPU, of the same machine
pub record Stays (old new : MachineCpuValue) : Type 0 where
  pub at : (m : MachineValue) → IsAt m old → IsAt m new
  pub number_is : new.calls.number ≡ old.calls.number

-- nothing has changed
pub stays_same : (old new : MachineCpuValue) → new ≡ old → Stays old new
stays_same old new e = record {
  at = λ m at. subst (λ (x : MachineCpuValue). IsAt m x) (sym e) at;
  number_is = ap (λ (x : MachineCpuValue). x.calls.number) e;
}

-- a call of a family
pub stays_called : (old new : MachineCpuValue) → KeepsStops old new → Stays old new
stays_called old new k = record {
  at = λ m at. record {
    calls = k.same.table_is ∙ at.calls;
    stops = subst (λ x. IsAtStops m.stops x) (sym k.stops_are) at.stops;
    queues = ap (λ (x : PassesValue). x.queues) k.passes_are ∙ at.queues;
  };
  number_is = k.same.number_is;
}

pub at_called : (m : MachineValue) (old new : MachineCpuValue) → KeepsStops old new → IsAt m old → IsAt m new
at_called m old new k at = (stays_called old new k).at m at

module _ {H F : Type 0} (hears : H → Heard → H → Type 0) (runs : F → Called → F → Type 0) where
  -- a stretch of work
  pub stays_worked : (old new : MachineCpuValue) (h h' : H) (f f' : F) (own : Own) → Works hears runs old h f new h' f' own → Stays old new
  stays_worked old new h h' f f' own w = record {
    at = λ m at. at_still hears runs w at;
    number_is = ap (λ (x : CallCpuValue). x.number) w.calls_kept;
  }

  -- a stop, or its refusal
  pub stays_stopped : (moves : Work → ℕ → List OwnMove) (P : Work → Type 0) (old new : MachineCpuValue) (h h' : H) (f f' : F)
      (made : Result ℤ SmpError)
      → IfOk made (λ v. (work : Work) × P work × HasStopped hears runs moves work old h f new h' f' v)
      → IfErr made (λ _. RefusedStill old h f new h' f') → Stays old new
  stays_stopped moves P old new h h' f f' (Ok v) ok err = stays_worked old new h h' f f' _ ok.2.works
  stays_stopped moves P old new h h' f f' (Err e) ok err = stays_same old new err.kept

  -- a key that is set, or not
  pub stays_set : (t : TableValue) (k : ℕ) (on : Bool) (old new : MachineCpuValue) (h h' : H) (f f' : F) (made : Result Bool SmpError)
      → IfOk made (λ turned. Sets hears runs t k on old h f new h' f' turned) → IfErr made (λ _. RefusedStill old h f new h' f') → Stays old new
  stays_set t k on old new h h' f f' (Ok false) sets err = stays_worked old new h h' f f' _ sets.works
  stays_set t k on old new h h' f f' (Ok true) sets err = stays_worked old new h h' f f' _ sets.stopped.works
  stays_set t k on old new h h' f f' (Err e) sets err = stays_same old new err.kept

  -- a key that is counted, or not
  pub stays_counted : (t : TableValue) (k : ℕ) (up : Bool) (old new : MachineCpuValue) (h h' : H) (f f' : F) (made : Result Bool SmpError)
      → CountsOr hears runs t k up old h f new h' f' made → Stays old new
  stays_counted t k up old new h h' f f' (Ok false) c = stays_worked old new h h' f f' _ c.1.works
  stays_counted t k up old new h h' f f' (Ok true) c = stays_worked old new h h' f f' _ c.1.patches.stopped.works
  stays_counted t k up old new h h' f f' (Err (error.KeyRange e)) (may, (is, inl edge)) = stays_worked old new h h' f f' _ edge.works
  stays_counted t k up old new h h' f f' (Err (error.KeyRange e)) (may, (is, inr patched)) =
      stays_worked old new h h' f f' _ patched.2.patches.stopped.works
  stays_counted t k up old new h h' f f' (Err error.BadArgument) c = stays_same old new c.1.kept
  stays_counted t k up old new h h' f f' (Err error.NoStopper) c = absurd c.1
  stays_counted t k up old new h h' f f' _ c = absurd c.1

  -- the same, part by part
  pub at_stopped : (moves : Work → ℕ → List OwnMove) (P : Work → Type 0) (m : MachineValue) (old new : MachineCpuValue) (h h' : H)
      (f f' : F) (made : Result ℤ SmpError)
      → IfOk made (λ v. (work : Work) × P work × HasStopped hears runs moves work old h f new h' f' v)
      → IfErr made (λ _. RefusedStill old h f new h' f') → IsAt m old → IsAt m new
  at_stopped moves P m old new h h' f f' made ok err at = (stays_stopped moves P old new h h' f f' made ok err).at m at

  pub number_stopped : (moves : Work → ℕ → List OwnMove) (P : Work → Type 0) (old new : MachineCpuValue) (h h' : H) (f f' : F)
      (made : Result ℤ SmpError)
      → IfOk made (λ v. (work : Work) × P work × HasStopped hears runs moves work old h f new h' f' v)
      → IfErr made (λ _. RefusedStill old h f new h' f') → new.calls.number ≡ old.calls.number
  number_stopped moves P old new h h' f f' made ok err = (stays_stopped moves P old new h h' f f' made ok err).number_is

  pub at_set : (t : TableValue) (k : ℕ) (on : Bool) (m : MachineValue) (old new : MachineCpuValue) (h h' : H) (f f' : F) (made : Result Bool SmpError)
      → IfOk made (λ turned. Sets hears runs t k on old h f new h' f' turned) → IfErr made (λ _. RefusedStill old h f new h' f')
      → IsAt m old → IsAt m new
  at_set t k on m old new h h' f f' made sets err at = (stays_set t k on old new h h' f f' made sets err).at m at

  pub number_set : (t : TableValue) (k : ℕ) (on : Bool) (old new : MachineCpuValue) (h h' : H) (f f' : F) (made : Result Bool SmpError)
      → IfOk made (λ turned. Sets hears runs t k on old h f new h' f' turned) → IfErr made (λ _. RefusedStill old h f new h' f')
      → new.calls.number ≡ old.calls.number
  number_set t k on old new h h' f f' made sets err = (stays_set t k on old new h h' f f' made sets err).number_is

  pub at_counted : (t : TableValue) (k : ℕ) (up : Bool) (m : MachineValue) (old new : MachineCpuValue) (h h' : H) (f f' : F) (made : Result Bool SmpError)
      → CountsOr hears runs t k up old h f new h' f' made → IsAt m old → IsAt m new
  at_counted t k up m old new h h' f f' made c at = (stays_counted t k up old new h h' f f' made c).at m at

  pub number_counted : (t : TableValue) (k : ℕ) (up : Bool) (old new : MachineCpuValue) (h h' : H) (f f' : F) (made : Result Bool SmpError)
      → CountsOr hears runs t k up old h f new h' f' made → new.calls.number ≡ old.calls.number
  number_counted t k up old new h h' f f' made c = (stays_counted t k up old new h h' f f' made c).number_is

  pub number_worked : (old new : MachineCpuValue) (h h' : H) (f f' : F) (own : Own) → Works hears runs old h f new h' f' own
      → new.calls.number ≡ old.calls.number
  number_worked old new h h' f f' own w = (stays_worked old new h h' f f' own w).number_is
