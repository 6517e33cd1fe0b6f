-- What a family of calls leaves of its CPU.
use Rattle.std.specs.Prelude.{◌≡◌, ◌≢◌, None}
use Rattle.smp_mask.specs.declared.error.SmpError.{SmpError}
use Rattle.smp_mask.specs.declared.error.SmpError.TheVariants as error
use Rattle.smp_queue.specs.Cpu.{CpuValue as CallCpuValue}
use Rattle.smp_machine.specs.MachineCpu.{MachineCpuValue, notes_looks}

-- it is still the CPU of this number, of this table
pub record IsSameCpu (old new : CallCpuValue) : Type 0 where
  pub table_is : new.table ≡ old.table
  pub number_is : new.number ≡ old.number

-- nothing has changed but the CPU's part of the calls: it has taken no work, and no part in a stop. Each look at its interrupt word is
-- noted, where it stands with its looks at phases
pub record KeepsStops (old new : MachineCpuValue) : Type 0 where
  pub same : IsSameCpu old.calls new.calls
  pub stops_are : new.stops ≡ old.stops
  pub passes_are : new.passes ≡ old.passes
  pub heard_are : new.heard_at ≡ notes_looks old.calls new.calls old.stops old.heard_at

-- refused since a work is in hand: nothing has changed, and no function has run
pub record RefusedInHand {H : Type 0} (e : SmpError) (old : MachineCpuValue) (before : H) (new : MachineCpuValue) (after : H) : Type 0 where
  pub error_is : e ≡ error.BadArgument
  pub in_hand : old.stops.inside ≢ None
  pub kept : new ≡ old
  pub handler_kept : after ≡ before
