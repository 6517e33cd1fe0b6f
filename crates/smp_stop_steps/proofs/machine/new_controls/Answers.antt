use Rattle.std.proofs.Common.{◌≡◌, arith}
use Rattle.smp_stop_steps.specs.{cpus}
use Rattle.smp_stop_steps.proofs.machine.new_controls.Goals as goal

pub returns : goal.returns
returns g c = let e : c.loop-cpu._cpu ≡ cpus = omega arith in rw e at c.loop-cpu.invariant
