use Rattle.std.proofs.Common.{◌≡◌, replicate}
use Rattle.smp_call_steps.specs.Value.{outside}
use Rattle.smp_core.proofs.machine.new_controls.Given as goal

abbrev pub invariant-loop-cpu : goal.invariant-loop-cpu
invariant-loop-cpu g l = l.controls.items ≡ replicate l._cpu outside
