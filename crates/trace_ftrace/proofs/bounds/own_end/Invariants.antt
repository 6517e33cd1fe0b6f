use Rattle.std.proofs.Common.{◌≡◌, length}
use Rattle.trace_ftrace.specs.Bounds.{own_end}
use Rattle.trace_ftrace.proofs.bounds.own_end.Given as goal

abbrev pub invariant-loop-rest : goal.invariant-loop-rest
invariant-loop-rest l = own_end l.fn.cpu l.inside l.rest ≡ own_end l.fn.cpu 0 l.fn.behind

abbrev pub decreases-loop-rest : goal.decreases-loop-rest
decreases-loop-rest l = length l.rest
