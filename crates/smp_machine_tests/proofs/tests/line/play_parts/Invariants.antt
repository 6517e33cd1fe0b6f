use Rattle.smp_machine.specs.Seats.{IsSameSeat}
use Rattle.smp_machine_tests.proofs.tests.line.play_parts.Given as goal

abbrev pub invariant-loop-often : goal.invariant-loop-often
invariant-loop-often g l = IsSameSeat l.initial.me l.me
