use Rattle.smp_machine.specs.Seats.{IsSameSeat}
use Rattle.smp_machine_tests.proofs.tests.line.await_work.Given as goal

abbrev pub invariant-loop : goal.invariant-loop
invariant-loop g l = IsSameSeat l.initial.me l.me
