use Rattle.smp_machine.specs.Seats.{IsSameSeat}
use Rattle.load.proofs.bench.batch.run_batch.Given as goal

abbrev pub invariant-loop : goal.invariant-loop
invariant-loop g l = IsSameSeat l.initial.seat l.seat
