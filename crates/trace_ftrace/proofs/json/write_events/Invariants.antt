use Rattle.std.proofs.Common.{◌≡◌, ◌++◌, [], length}
use Rattle.trace_ftrace.specs.NamesView.{names_value}
use Rattle.trace_ftrace.specs.Json.{events_text}
use Rattle.trace_ftrace.proofs.json.write_events.Given as goal

abbrev pub invariant-loop-rest : goal.invariant-loop-rest
invariant-loop-rest g l = l.out.items ++ events_text (names_value l.names) l.rest l.left.items
    ≡ l.initial.out.items ++ events_text (names_value l.fn.names) l.fn.told []

abbrev pub decreases-loop-rest : goal.decreases-loop-rest
decreases-loop-rest g l = length l.rest
