use Rattle.smp_machine.specs.Seats.{IsSameSeat}
use Rattle.load.proofs.bench.rest.rest_and_call.Given as goal

abbrev pub invariant-loop-left : goal.invariant-loop-left
invariant-loop-left g l = IsSameSeat l.initial.seat l.seat
