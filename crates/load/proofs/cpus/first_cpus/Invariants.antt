use Rattle.load.specs.Ends.{AreFirst}
use Rattle.load.proofs.cpus.first_cpus.Given as goal

abbrev pub invariant-loop-number : goal.invariant-loop-number
invariant-loop-number l = AreFirst l.number l.mask
