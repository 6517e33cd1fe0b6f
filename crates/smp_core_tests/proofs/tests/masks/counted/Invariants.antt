use Rattle.std.proofs.Common.{◌≡◌, length}
use Rattle.smp_core_tests.proofs.tests.masks.counted.Given as goal

abbrev pub invariant-loop-cpu : goal.invariant-loop-cpu
invariant-loop-cpu l = l.count ≡ length l.yielded
