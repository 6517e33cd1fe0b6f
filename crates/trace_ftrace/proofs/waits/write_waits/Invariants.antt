use Rattle.std.proofs.Common.{◌≡◌, ◌++◌, [], length}
use Rattle.trace_ftrace.specs.NamesView.{names_value}
use Rattle.trace_ftrace.specs.Waits.{waits_text}
use Rattle.trace_ftrace.proofs.waits.write_waits.Given as goal

abbrev pub invariant-loop-rest : goal.invariant-loop-rest
invariant-loop-rest g l = l.out.items ++ waits_text (names_value l.names) l.slow l.rest l.left.items
    ≡ l.initial.out.items ++ waits_text (names_value l.fn.names) l.fn.slow l.fn.told []

abbrev pub decreases-loop-rest : goal.decreases-loop-rest
decreases-loop-rest g l = length l.rest
