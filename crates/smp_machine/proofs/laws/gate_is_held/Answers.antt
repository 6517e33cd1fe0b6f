use Rattle.smp_machine.proofs.GateLaws.{gate_held}
use Rattle.smp_machine.proofs.laws.gate_is_held.Goals as goal

pub returns : goal.returns
returns g c = gate_held g.H.Handler.leads g.F.StopFunc.leads
