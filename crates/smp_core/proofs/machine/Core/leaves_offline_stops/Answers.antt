use Rattle.smp_core.proofs.OfflineStops.{leaves_offline_stops}
use Rattle.smp_core.proofs.machine.Core.leaves_offline_stops.Goals as goal

pub returns : goal.returns
returns g c = rw (← c.self.view_is) (leaves_offline_stops c.self.inside.stops c.self.invariant.stops_apart c.self.inside.online c.self.invariant.stops_online)
