use Rattle.std.proofs.Common.{◌≡◌, ◌++◌, map, length}
use Rattle.trace_ftrace.proofs.kept.functions_of.Given as goal

abbrev pub invariant-loop-rest : goal.invariant-loop-rest
invariant-loop-rest g l = map (λ n. n.now) l.functions.items ++ map (λ n. n.items) l.rest ≡ map (λ n. n.items) l.fn.kept.names.items

abbrev pub decreases-loop-rest : goal.decreases-loop-rest
decreases-loop-rest g l = length l.rest
