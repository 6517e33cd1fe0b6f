use Rattle.std.proofs.Common.{length}
use Rattle.smp_machine.proofs.crowds.+meet.Given as goal

abbrev pub decreases-meet : goal.decreases-meet
decreases-meet g l = length l.cpus.now
