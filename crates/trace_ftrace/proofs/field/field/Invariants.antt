use Rattle.std.proofs.Common.{◌≡◌, map, length}
use Rattle.trace_ftrace.specs.Fields.{field_of}
use Rattle.trace_ftrace.proofs.field.field.Given as goal

abbrev pub invariant-loop-rest : goal.invariant-loop-rest
invariant-loop-rest l = field_of l.name (map (λ f. f.now) l.rest) ≡ field_of l.fn.name (map (λ f. f.now) l.fn.fields)

abbrev pub decreases-loop-rest : goal.decreases-loop-rest
decreases-loop-rest l = length l.rest
