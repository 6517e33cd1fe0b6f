-- A seat stays, whatever it calls.
use Rattle.std.proofs.Common.{◌≡◌, ◌∙◌, refl, subst, sym}
use Rattle.smp_queue.specs.declared.handler.Heard.{Heard}
use Rattle.smp_multi.specs.declared.func.Called.{Called}
use Rattle.smp_machine.specs.Calls.{KeepsStops}
use Rattle.smp_machine.specs.MachineCpu.{MachineValue, MachineCpuValue}
use Rattle.smp_machine.specs.Seats.{IsSameSeat, SeatValue}
use Rattle.smp_run.specs.Seats.{IsSeated}
use Rattle.smp_run.specs.Sent.{HasWaited}
use Rattle.smp_run.specs.Stays.{IsAtRest, Stays}
use Rattle.smp_run.proofs.Staying.{QuietSeat, seated_called, seated_quiet}
use Rattle.smp_run.proofs.Waiting.{waited_quietly}

module _ {H F : Type 0} where
  -- before it has called anything
  pub stays_first : (s : SeatValue H F) → IsAtRest s → Stays s s
  stays_first s rest = record { same = record { machine_is = refl; number_is = refl }; rest = rest }

  -- and after one call more
  pub stays_on : (first now new : SeatValue H F) → Stays first now → Stays now new → Stays first new
  stays_on first now new was more = record {
    same = record { machine_is = more.same.machine_is ∙ was.same.machine_is; number_is = more.same.number_is ∙ was.same.number_is };
    rest = more.rest;
  }

  -- the same CPU, at the same machine, is at rest with another handler too
  pub rest_like : (old new : SeatValue H F) → new.machine ≡ old.machine → new.cpu ≡ old.cpu → IsSeated old.machine old.cpu → HasWaited old.cpu
      → IsAtRest new
  rest_like old new machine cpu seated waited = record {
    seated = subst (λ (p : MachineValue × MachineCpuValue). IsSeated p.0 p.1) (λ i. (sym machine i, sym cpu i)) seated;
    waited = subst (λ (p : MachineCpuValue). HasWaited p) (sym cpu) waited;
  }

  -- after a call of a family
  pub stays_called : (old new : SeatValue H F) → KeepsStops old.cpu new.cpu → IsSameSeat old new → HasWaited new.cpu → IsAtRest old → Stays old new
  stays_called old new kept same waited rest =
      record { same = same; rest = record { seated = seated_called old new kept same rest.seated; waited = waited } }

  -- after a stretch of work, or nothing
  pub stays_quiet : (hears : H → Heard → H → Type 0) (runs : F → Called → F → Type 0) (old new : SeatValue H F) → QuietSeat hears runs old new
      → IsSameSeat old new → IsAtRest old → Stays old new
  stays_quiet hears runs old new quiet same rest = record {
    same = same;
    rest = record {
      seated = seated_quiet hears runs old new quiet same rest.seated;
      waited = waited_quietly hears runs old new quiet rest.waited;
    };
  }
