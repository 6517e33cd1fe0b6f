use Rattle.std.proofs.Common.{◌≡◌}
use Rattle.view.proofs.lanes.columns.Given as goal

abbrev pub invariant-loop-cpu : goal.invariant-loop-cpu
invariant-loop-cpu g l = l.cpus.items ≡ l.yielded
