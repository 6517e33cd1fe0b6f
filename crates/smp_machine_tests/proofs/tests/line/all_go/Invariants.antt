use Rattle.smp_machine.specs.Seats.{IsSameSeat}
use Rattle.smp_machine_tests.proofs.tests.line.all_go.Given as goal

abbrev pub invariant-loop-act : goal.invariant-loop-act
invariant-loop-act g l = IsSameSeat l.initial.me l.me
