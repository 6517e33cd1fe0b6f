use Rattle.std.proofs.Common.{◌≡◌, [], length}
use Rattle.trace_ftrace.specs.Placing.{placed_all}
use Rattle.trace_ftrace.specs.PlacingView.{placing_value}
use Rattle.trace_ftrace.proofs.placing.place_all.Given as goal

abbrev pub invariant-loop-left : goal.invariant-loop-left
invariant-loop-left g l =
    placed_all l.left (placing_value l.placing) ≡ placed_all l.fn.choices (record { rest = l.fn.told; bounds = l.fn.bounds; steps = [] })

abbrev pub decreases-loop-left : goal.decreases-loop-left
decreases-loop-left g l = length l.left
