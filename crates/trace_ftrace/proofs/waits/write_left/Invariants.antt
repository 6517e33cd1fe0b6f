use Rattle.std.proofs.Common.{◌≡◌, ◌++◌, length}
use Rattle.trace_ftrace.specs.NamesView.{names_value}
use Rattle.trace_ftrace.specs.Waits.{left_text}
use Rattle.trace_ftrace.proofs.waits.write_left.Given as goal

abbrev pub invariant-loop-rest : goal.invariant-loop-rest
invariant-loop-rest g l = l.out.items ++ left_text (names_value l.names) l.rest ≡ l.initial.out.items ++ left_text (names_value l.fn.names) l.fn.left

abbrev pub decreases-loop-rest : goal.decreases-loop-rest
decreases-loop-rest g l = length l.rest
