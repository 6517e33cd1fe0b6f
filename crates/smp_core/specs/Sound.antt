-- What every core keeps.
use Rattle.std.specs.Prelude.{◌≡◌, ℕ, List}
use Rattle.smp_call_steps.specs.Stages.{ControlValue}
use Rattle.smp_words.specs.Limits.{AreLimits}
use Rattle.smp_stop_steps.specs.Value.{StopsValue}
use Rattle.smp_call_steps.specs.Sound.{IsTable}
use Rattle.smp_core.specs.Joined.{AreJoined}
use Rattle.smp_core.specs.Offline.{IsApart}
use Rattle.smp_core.specs.OfflineStops.{AreStopsApart}

-- the call half is whole, with some CPUs online, all of which there are; both halves have the same CPUs, and the same of them online;
-- those that are not online have no part in the calls and in the stops; and each CPU is inside one half at most
pub record IsSound (nr online : ℕ) (words : List ℕ) (controls : List ControlValue) (stops : StopsValue) : Type 0 where
  pub limits : AreLimits nr online
  pub table : IsTable words controls
  pub stops_nr : stops.nr ≡ nr
  pub stops_online : stops.online ≡ online
  pub apart : IsApart online words controls
  pub stops_apart : AreStopsApart stops
  pub joined : AreJoined controls stops.controls
