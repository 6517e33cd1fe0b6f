use Rattle.smp_stop_steps.specs.Table.{stop_number}
use Rattle.smp_stop_steps.proofs.Promises.StopLaws.{keeps_laws}
use Rattle.smp_core.proofs.machine.Core.keeps_stop_laws.Goals as goal

pub returns : goal.returns
returns g c p shown = keeps_laws _ p (stop_number c.args.self.now.stops.table) shown.seat shown.source shown.shows
