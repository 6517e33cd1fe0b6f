-- What every core keeps, said of its value, and the laws that it has.
use Rattle.std.specs.Prelude.{ℕ}
use Rattle.smp_call_steps.specs.Calls.{CallState}
use Rattle.smp_call_steps.specs.Value.{control_of}
use Rattle.smp_core.specs.Joined.{HandlesWithOn}
use Rattle.smp_core.specs.Machine.{setup_in}
use Rattle.smp_core.specs.Offline.{LeavesOffline}
use Rattle.smp_core.specs.OfflineStops.{LeavesOfflineStops}
use Rattle.smp_core.specs.Sound.{IsSound}
use Rattle.smp_core.specs.Value.{CoreValue, Shown}
use Rattle.smp_stop_steps.specs.Machine.{IsSoundHalf}
use Rattle.smp_stop_steps.specs.State.{StopState}
use Rattle.smp_stop_steps.specs.StopLaws.{KeepsStopLaws}
use Rattle.smp_stop_steps.specs.Table.{stop_number}
use Rattle.smp_stop_steps.specs.Value.{StopShown}

-- both halves are whole
pub record IsWhole (core : CoreValue) : Type 0 where
  pub sound : IsSound core.nr core.online core.words core.controls core.stops
  pub stops : IsSoundHalf core.stops

-- its words and stages show calls and stops, and these keep all laws; CPUs that are not online have no part in them; inside `handle`
-- interrupts are on
pub record KeepsLaws (core : CoreValue) : Type 0 where
  pub calls : CallState
  pub shows_calls : Shown calls core
  pub offline : LeavesOffline core.online core.words core.controls
  pub offline_stops : LeavesOfflineStops core.online core.stops
  pub stops : StopState
  pub shows_stops : StopShown stops core.stops
  pub stop_laws : KeepsStopLaws (setup_in core) stops (stop_number core.stops.table)
  pub handles : (cpu : ℕ) → HandlesWithOn (control_of core.controls cpu).stage (stops.now.irq cpu)
