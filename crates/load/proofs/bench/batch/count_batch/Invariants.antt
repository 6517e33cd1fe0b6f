use Rattle.smp_machine.specs.Seats.{IsSameSeat}
use Rattle.load.proofs.bench.batch.count_batch.Given as goal

abbrev pub invariant-loop-i : goal.invariant-loop-i
invariant-loop-i g l = IsSameSeat l.initial.seat l.seat
