use Rattle.std.proofs.Common.{◌≡◌, IfOk, subst}
use Rattle.smp_machine.specs.OwnAnswers.{HasCalledFor}
use Rattle.smp_machine.proofs.seat.Seat.stop_one.Goals as goal

pub returns-clause-own : goal.returns-clause-own
returns-clause-own g c =
    subst (λ s. IfOk c.stop_one.result (λ v. c.args.dst ≡ s.cpu.stops.number
    → HasCalledFor c.args.func c.args.arg s.cpu.stops c.stop_one.new.me.stops v)) c.self.view_is c.stop_one.ensures.own
