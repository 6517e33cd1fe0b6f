use Rattle.smp_machine.specs.Own.{own_of}
use Rattle.smp_machine.specs.Seats.{IsSameSeat, SeatWorks}
use Rattle.smp_machine.proofs.threads.poll_to_the_end.Given as goal

abbrev pub invariant-loop : goal.invariant-loop
invariant-loop g l =
    SeatWorks g.H.Handler.leads g.F.StopFunc.leads l.initial.seat l.seat (own_of l.initial.seat.cpu) × IsSameSeat l.initial.seat l.seat
