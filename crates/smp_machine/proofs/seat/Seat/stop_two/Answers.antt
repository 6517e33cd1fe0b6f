use Rattle.std.proofs.Common.{◌≡◌, IfOk, subst}
use Rattle.smp_machine.specs.OwnAnswers.{HasCalledFor}
use Rattle.smp_machine.proofs.seat.Seat.stop_two.Goals as goal

pub returns-clause-own : goal.returns-clause-own
returns-clause-own g c =
    subst (λ s. IfOk c.stop_two.result (λ v. c.args.a ≡ s.cpu.stops.number
    → HasCalledFor c.args.func c.args.arg s.cpu.stops c.stop_two.new.me.stops v)) c.self.view_is c.stop_two.ensures.own
