use Rattle.smp_machine.specs.Seats.{IsSameSeat}
use Rattle.users.proofs.fence.FencesCrewSilentNoStopGlobal.play.Given as goal

abbrev pub invariant-loop : goal.invariant-loop
invariant-loop g l = IsSameSeat l.initial.seat l.seat
