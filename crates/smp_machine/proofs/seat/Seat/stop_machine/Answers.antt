use Rattle.std.proofs.Common.{IfOk, subst}
use Rattle.smp_machine.specs.OwnAnswers.{HasCalledFor}
use Rattle.smp_machine.specs.Stops.{IsActiveAlone}
use Rattle.smp_machine.proofs.seat.Seat.stop_machine.Goals as goal

pub returns-clause-own : goal.returns-clause-own
returns-clause-own g c =
    subst (λ s. IfOk c.stop_machine.result (λ v. IsActiveAlone s.machine.stops.setting.online c.args.active s.cpu.stops.number
    → HasCalledFor c.args.func c.args.arg s.cpu.stops c.stop_machine.new.me.stops v)) c.self.view_is c.stop_machine.ensures.own
