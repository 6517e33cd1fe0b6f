use Rattle.std.proofs.Common.{◌≡◌, replicate}
use Rattle.smp_stop_steps.specs.{stop_outside}
use Rattle.smp_stop_steps.proofs.machine.new_controls.Given as goal

abbrev pub invariant-loop-cpu : goal.invariant-loop-cpu
invariant-loop-cpu g l = l.controls.items ≡ replicate l._cpu stop_outside
