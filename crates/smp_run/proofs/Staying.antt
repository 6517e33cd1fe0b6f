-- A CPU of a machine stays there, with no work in hand, whatever it calls.
use Rattle.std.proofs.Common.{◌≡◌, ◌⊎◌, ℕ, ℤ, Bool, true, false, None, inl, inr, Result, Ok, Err, IfOk, IfErr, List, [], refl, sym, ap, subst, ◌∙◌}
use Rattle.smp_mask.specs.Mask.{has}
use Rattle.smp_mask.specs.declared.error.SmpError.{SmpError}
use Rattle.smp_mask.specs.declared.error.SmpError.TheVariants as error
use Rattle.smp_queue.specs.Cpu.{CpuValue as CallCpuValue}
use Rattle.smp_queue.specs.declared.handler.Heard.{Heard}
use Rattle.smp_multi.specs.Cpu.{IsAt as IsAtStops}
use Rattle.smp_multi.specs.Names.{Work}
use Rattle.smp_multi.specs.declared.func.Called.{Called}
use Rattle.smp_machine.specs.Calls.{KeepsStops}
use Rattle.smp_multi.specs.Names.{OwnMove}
use Rattle.smp_machine.specs.Own.{Own}
use Rattle.smp_machine.specs.Passes.{PassesValue}
use Rattle.smp_machine.specs.MachineCpu.{MachineValue, MachineCpuValue}
use Rattle.smp_machine.specs.Seats.{IsSameSeat, SeatCounts, SeatSets, SeatStopped, SeatValue}
use Rattle.smp_machine.specs.Works.{Works}
use Rattle.smp_machine.proofs.Works.{at_still}
use Rattle.smp_run.specs.Seats.{IsSeated, IsStill}
use Rattle.smp_run.specs.Sent.{HasCalled}
use Rattle.smp_run.proofs.Sending.{called_as_was, called_none}

-- nothing has changed
pub still_same : (m : MachineValue) (old new : MachineCpuValue) → new ≡ old → IsSeated m old → IsStill m old new
still_same m old new e seated = subst (λ (x : MachineCpuValue). IsStill m old x) (sym e) (record { seated = seated; number_is = refl })

-- a call of a family
pub still_called : (m : MachineValue) (old new : MachineCpuValue) → KeepsStops old new → IsSeated m old → IsStill m old new
still_called m old new k seated = record {
  seated = record {
    at = record {
      calls = k.same.table_is ∙ seated.at.calls;
      stops = subst (λ x. IsAtStops m.stops x) (sym k.stops_are) seated.at.stops;
      queues = ap (λ (x : PassesValue). x.queues) k.passes_are ∙ seated.at.queues;
    };
    free = ap (λ x. x.inside) k.stops_are ∙ seated.free;
    online = subst (λ (n : ℕ). has m.calls.online n ≡ true) (sym k.same.number_is) seated.online;
  };
  number_is = k.same.number_is;
}

-- the same CPU, at the same machine
pub seated_still : {H F : Type 0} (old new : SeatValue H F) → IsSameSeat old new → IsStill old.machine old.cpu new.cpu → IsSeated new.machine new.cpu
seated_still old new same still = subst (λ (m : MachineValue). IsSeated m new.cpu) (sym same.machine_is) still.seated

pub seated_called : {H F : Type 0} (old new : SeatValue H F) → KeepsStops old.cpu new.cpu → IsSameSeat old new → IsSeated old.machine old.cpu
    → IsSeated new.machine new.cpu
seated_called old new k same seated = seated_still old new same (still_called old.machine old.cpu new.cpu k seated)

module _ {H F : Type 0} (hears : H → Heard → H → Type 0) (runs : F → Called → F → Type 0) where
  -- a stretch of work, after which it is in no stop
  pub still_worked : (m : MachineValue) (old new : MachineCpuValue) (h h' : H) (f f' : F) (own : Own) → Works hears runs old h f new h' f' own
      → new.stops.inside ≡ None → IsSeated m old → IsStill m old new
  still_worked m old new h h' f f' own w outside seated =
      let number : new.calls.number ≡ old.calls.number = ap (λ (x : CallCpuValue). x.number) w.calls_kept in
      record {
        seated = record {
          at = at_still hears runs w seated.at;
          free = outside;
          online = subst (λ (n : ℕ). has m.calls.online n ≡ true) (sym number) seated.online;
        };
        number_is = number;
      }

  -- a stretch of work after which it is in no stop, or nothing at all
  abbrev pub Quiet : MachineCpuValue → H → F → MachineCpuValue → H → F → Type 0
  Quiet old h f new h' f' = ((own : Own) × Works hears runs old h f new h' f' own × (new.stops.inside ≡ None)) ⊎ (new ≡ old)

  abbrev pub QuietSeat : SeatValue H F → SeatValue H F → Type 0
  QuietSeat old new = Quiet old.cpu old.handler old.functions new.cpu new.handler new.functions

  still_quiet : (m : MachineValue) (old new : MachineCpuValue) (h h' : H) (f f' : F) → Quiet old h f new h' f' → IsSeated m old → IsStill m old new
  still_quiet m old new h h' f f' (inl (own, w, outside)) seated = still_worked m old new h h' f f' own w outside seated
  still_quiet m old new h h' f f' (inr same) seated = still_same m old new same seated

  pub seated_quiet : (old new : SeatValue H F) → QuietSeat old new → IsSameSeat old new → IsSeated old.machine old.cpu → IsSeated new.machine new.cpu
  seated_quiet old new q same seated =
      seated_still old new same
      (still_quiet old.machine old.cpu new.cpu old.handler new.handler old.functions new.functions q seated)

  pub called_worked : (old new : MachineCpuValue) (h h' : H) (f f' : F) (own : Own) → Works hears runs old h f new h' f' own → HasCalled [] 0 old new
  called_worked old new h h' f f' own w =
      called_none old new (ap (λ (x : CallCpuValue). x.part.sent) w.calls_kept) (ap (λ (x : CallCpuValue). x.direct) w.calls_kept)

  called_quiet : (old new : MachineCpuValue) (h h' : H) (f f' : F) → Quiet old h f new h' f' → HasCalled [] 0 old new
  called_quiet old new h h' f f' (inl (own, w, outside)) = called_worked old new h h' f f' own w
  called_quiet old new h h' f f' (inr same) = called_as_was old new (ap (λ (x : MachineCpuValue). x.calls) same)

  called_quietly : (old new : SeatValue H F) → QuietSeat old new → HasCalled [] 0 old.cpu new.cpu
  called_quietly old new q = called_quiet old.cpu new.cpu old.handler new.handler old.functions new.functions q

  -- a stop
  pub quiet_stopped : (moves : Work → ℕ → List OwnMove) (P : Work → Type 0) (old new : SeatValue H F) (made : Result ℤ SmpError)
      → IfOk made (λ v. (work : Work) × P work × SeatStopped hears runs moves work old new v) → IfErr made (λ _. new ≡ old) → QuietSeat old new
  quiet_stopped moves P old new (Ok v) ok kept = inl (_, ok.2.works, ok.2.outside)
  quiet_stopped moves P old new (Err e) ok kept = inr (ap (λ (s : SeatValue H F). s.cpu) kept)

  pub called_stopped : (moves : Work → ℕ → List OwnMove) (P : Work → Type 0) (old new : SeatValue H F) (made : Result ℤ SmpError)
      → IfOk made (λ v. (work : Work) × P work × SeatStopped hears runs moves work old new v) → IfErr made (λ _. new ≡ old)
      → HasCalled [] 0 old.cpu new.cpu
  called_stopped moves P old new made ok kept = called_quietly old new (quiet_stopped moves P old new made ok kept)

  -- a key that is set
  pub quiet_set : (k : ℕ) (on : Bool) (old new : SeatValue H F) (made : Result Bool SmpError)
      → IfOk made (λ turned. SeatSets hears runs k on old new turned) → IfOk made (λ _. new.cpu.stops.inside ≡ None) → IfErr made (λ _. new ≡ old)
      → QuietSeat old new
  quiet_set k on old new (Ok false) sets outside kept = inl (_, sets.works, outside)
  quiet_set k on old new (Ok true) sets outside kept = inl (_, sets.stopped.works, outside)
  quiet_set k on old new (Err e) sets outside kept = inr (ap (λ (s : SeatValue H F). s.cpu) kept)

  pub called_set : (k : ℕ) (on : Bool) (old new : SeatValue H F) (made : Result Bool SmpError)
      → IfOk made (λ turned. SeatSets hears runs k on old new turned) → IfOk made (λ _. new.cpu.stops.inside ≡ None) → IfErr made (λ _. new ≡ old)
      → HasCalled [] 0 old.cpu new.cpu
  called_set k on old new made sets outside kept = called_quietly old new (quiet_set k on old new made sets outside kept)

  -- a key that is counted
  pub quiet_counted : (k : ℕ) (up : Bool) (old new : SeatValue H F) (made : Result Bool SmpError) → SeatCounts hears runs k up old new made
      → QuietSeat old new
  quiet_counted k up old new (Ok false) c = inl (_, c.1.works, c.1.outside)
  quiet_counted k up old new (Ok true) c = inl (_, c.1.patches.stopped.works, c.1.patches.stopped.outside)
  quiet_counted k up old new (Err (error.KeyRange e)) (may, (is, inl edge)) = inl (_, edge.works, edge.outside)
  quiet_counted k up old new (Err (error.KeyRange e)) (may, (is, inr patched)) =
      inl (_, patched.2.patches.stopped.works, patched.2.patches.stopped.outside)
  quiet_counted k up old new (Err error.BadArgument) c = inr c.1.kept
  quiet_counted k up old new (Err error.NoStopper) c = absurd c.1
  quiet_counted k up old new (Err error.NoCpu) c = absurd c.1
  quiet_counted k up old new (Err error.Busy) c = absurd c.1
  quiet_counted k up old new (Err error.Contended) c = absurd c.1
  quiet_counted k up old new (Err error.NoMemory) c = absurd c.1
  quiet_counted k up old new (Err error.Stale) c = absurd c.1
  quiet_counted k up old new (Err error.SlotBusy) c = absurd c.1
  quiet_counted k up old new (Err (error.BadScript n cause)) c = absurd c.1
  quiet_counted k up old new (Err error.IdleStep) c = absurd c.1
  quiet_counted k up old new (Err (error.BadMask n)) c = absurd c.1
  quiet_counted k up old new (Err (error.StreamFailed n)) c = absurd c.1

  pub called_counted : (k : ℕ) (up : Bool) (old new : SeatValue H F) (made : Result Bool SmpError) → SeatCounts hears runs k up old new made
      → HasCalled [] 0 old.cpu new.cpu
  called_counted k up old new made c = called_quietly old new (quiet_counted k up old new made c)
