use Rattle.std.proofs.Common.{◌≡◌, ◌+◌, map, length}
use Rattle.trace_ftrace.specs.Kept.{name_place}
use Rattle.trace_ftrace.proofs.kept.name_place.Given as goal

abbrev pub invariant-loop-rest : goal.invariant-loop-rest
invariant-loop-rest g l = (name_place l.place l.name (map (λ n. n.items) l.rest) ≡ name_place 0 l.fn.name (map (λ n. n.items) l.fn.names))
    × (l.place + length l.rest ≡ length l.fn.names)

abbrev pub decreases-loop-rest : goal.decreases-loop-rest
decreases-loop-rest g l = length l.rest
