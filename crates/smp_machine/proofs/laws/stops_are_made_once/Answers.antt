use Rattle.smp_machine.proofs.StopLaws.{stops_once}
use Rattle.smp_machine.proofs.laws.stops_are_made_once.Goals as goal

pub returns : goal.returns
returns g c = stops_once g.H.Handler.leads g.F.StopFunc.leads
