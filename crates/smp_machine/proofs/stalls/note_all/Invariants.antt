use Rattle.std.proofs.Common.{◌≡◌}
use Rattle.smp_machine.proofs.stalls.note_all.Given as goal

abbrev pub invariant-loop-cpu : goal.invariant-loop-cpu
invariant-loop-cpu g l = l.me ≡ l.fn.me
