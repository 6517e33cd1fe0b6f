use Rattle.smp_machine.specs.Seats.{IsSameSeat}
use Rattle.users.proofs.switch.PartsCrewSilentNoStopGlobal.play.Given as goal

abbrev pub invariant-loop-round : goal.invariant-loop-round
invariant-loop-round g l = IsSameSeat l.initial.seat l.seat
