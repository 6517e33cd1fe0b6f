use Rattle.smp_machine.proofs.StopLaws.{agree_with_own}
use Rattle.smp_machine.proofs.laws.stops_agree_with_own.Goals as goal

pub returns : goal.returns
returns g c = agree_with_own g.H.Handler.leads g.F.StopFunc.leads
