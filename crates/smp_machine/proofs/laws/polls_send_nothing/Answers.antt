use Rattle.smp_machine.proofs.StopLaws.{send_nothing}
use Rattle.smp_machine.proofs.laws.polls_send_nothing.Goals as goal

pub returns : goal.returns
returns g c = send_nothing g.H.Handler.leads g.F.StopFunc.leads
